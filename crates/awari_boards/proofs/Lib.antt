mod JudgeLaws
mod MemoLaws
mod PlayLaws
mod PlyLines
mod Knowing
mod Names
mod Refusing
mod SaidLaws
