mod CommandLaws
mod JoinedWords
mod MadeCommands
mod WordRows
