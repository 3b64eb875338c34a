pub mod Rules
pub mod Tests
pub mod MoveFault
pub mod Text
pub mod BoardFault
