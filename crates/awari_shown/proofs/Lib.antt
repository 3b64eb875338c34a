mod MoveLines
mod JsonLaws
