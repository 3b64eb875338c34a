pub mod JsonLaws
pub mod MemberLaws
