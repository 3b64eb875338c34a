-- The name and the sentence that belong to each number.
use Rattle.std.specs.Prelude.{ℕ, ◌==◌, nat_lt, if◌then◌else◌, List, [], codes}

-- the name of the refusals of a number, and what is said to a person
pub record Meant : Type 0 where
  pub name : List ℕ
  pub sentence : List ℕ

abbrev pub says : List ℕ → List ℕ → Meant
says name sentence = record { name = name; sentence = sentence }

-- of boards, moves, texts and levels
abbrev pub of_tables : ℕ → Meant
of_tables n =
    if n == 0 then says (codes "") (codes "Nothing is refused") else
    if n == 1 then says (codes "Shape") (codes "A board is six numbers, a slash and six numbers, parted by commas") else
    if n == 2 then says (codes "Number") (codes "Each number of a board is from 0 to 99, in its shortest form") else
    if n == 3 then says (codes "TooMany") (codes "A board has at most 48 stones") else
    if n == 4 then says (codes "NoPit") (codes "The mover has no such pit") else
    if n == 5 then says (codes "EmptyPit") (codes "The pit is empty") else
    if n == 6 then says (codes "MustFeed") (codes "The opponent has no stones, and the pit would give none while another does") else
    if n == 7 then says (codes "Ended") (codes "The play has ended") else
    if n == 10 then says (codes "Line") (codes "The line does not have the form that is expected there") else
    if n == 11 then says (codes "Order") (codes "The line is the header of another level than the next one") else
    if n == 12 then says (codes "High") (codes "The line is the header of a level above 24, the highest") else
    if n == 13 then says (codes "Short") (codes "The text ends inside a level, or its last line has no line feed") else
    if n == 14 then says (codes "Read") (codes "The input can't be read") else
    if n == 15 then says (codes "Memory") (codes "There is not enough memory for the input or for a level") else
    if n == 20 then says (codes "WrongLevel") (codes "The level is not the next one") else
    if n == 21 then says (codes "WrongSize") (codes "The level does not have one entry for each board") else
    if n == 22 then says (codes "Refused") (codes "The entry of a board breaks a rule") else
    if n == 23 then says (codes "Memory") (codes "There is not enough memory to verify a level") else
    says [] (codes "No answer has this number")

-- of builds, and commands that ask a level
abbrev pub of_builds : ℕ → Meant
of_builds n =
    if n == 30 then says (codes "Stranger") (codes "A part of the level was told a note that it does not hear now") else
    if n == 31 then says (codes "Doubled") (codes "A note of the same board and pit came before") else
    if n == 32 then says (codes "Far") (codes "The distance is the greatest that can be stored") else
    if n == 33 then says (codes "Memory") (codes "There is not enough memory for a part of the level") else
    if n == 34 then says (codes "NotEnabled") (codes "The event is not one that may happen now") else
    if n == 35 then says (codes "Owners") (codes "A model has 1 to 16 owners") else
    if n == 36 then says (codes "Room") (codes "A line of the model has room for 1 to 256 batches") else
    if n == 37 then says (codes "TooHigh") (codes "The model has all levels already") else
    if n == 38 then says (codes "Memory") (codes "There is not enough memory for the model") else
    if n == 39 then says (codes "NotQuiet") (codes "The model has work to do before that") else
    if n == 40 then says (codes "NotStarted") (codes "A thread could not be started") else
    if n == 41 then says (codes "Memory") (codes "There is not enough memory for the owners of a level") else
    if n == 42 then says (codes "BadNote") (codes "An owner of a part of the level met a fault") else
    if n == 43 then says (codes "Stopped") (codes "The level was not wanted any more") else
    if n == 50 then says (codes "Owners") (codes "A level has 1 to 16 owners") else
    if n == 51 then says (codes "TooHigh") (codes "No level is above 24") else
    if n == 52 then says (codes "Phase") (codes "The owners of a level could not work, or were stopped") else
    if n == 53 then says (codes "Memory") (codes "There is not enough memory to build the level") else
    if n == 55 then says (codes "Pace") (codes "A line has room for 1 to 256 batches, and a round has 1 to 1000 sweeps") else
    if n == 56 then says (codes "NotYet") (codes "The level of that many stones is not there") else
    if n == 57 then says (codes "Memory") (codes "There is not enough memory for the moves") else
    if n == 59 then says (codes "NotYet") (codes "The level of that many stones is not there") else
    says [] (codes "No answer has this number")

-- of files, folders, desks and services
abbrev pub of_files : ℕ → Meant
of_files n =
    if n == 60 then says (codes "Truncated") (codes "The file is cut off") else
    if n == 61 then says (codes "Magic") (codes "The file is not a level's file: it does not begin with AWDB") else
    if n == 62 then says (codes "Version") (codes "The file has an unknown version; known are 1 and 2") else
    if n == 63 then says (codes "LevelOutOfRange") (codes "The file names a level that its version does not have") else
    if n == 64 then says (codes "Count") (codes "The file's count of boards is not that of its level") else
    if n == 65 then says (codes "EntryForm") (codes "The file has a plan that is no pit") else
    if n == 66 then says (codes "Digest") (codes "The digest is wrong: the file is damaged") else
    if n == 67 then says (codes "Trailing") (codes "The file is too long") else
    if n == 68 then says (codes "Read") (codes "The file can't be read") else
    if n == 69 then says (codes "Memory") (codes "There is not enough memory for the entries of the file") else
    if n == 70 then says (codes "Write") (codes "The file can't be written, or can't be brought to the disk") else
    if n == 71 then says (codes "NotNext") (codes "The level that is published is not the next one") else
    if n == 72 then says (codes "Readers") (codes "There is no place for so many readers") else
    if n == 73 then says (codes "Memory") (codes "There is not enough memory for the levels and their readers") else
    if n == 74 then says (codes "NotYet") (codes "The level of that many stones is not there") else
    if n == 75 then says (codes "Gone") (codes "Nobody publishes levels any more") else
    if n == 80 then says (codes "Below") (codes "The level was built over another file than the one below") else
    if n == 81 then says (codes "File") (codes "The file of a level is refused") else
    if n == 82 then says (codes "Open") (codes "The folder or a file does not open") else
    if n == 83 then says (codes "Verify") (codes "A level is not right") else
    if n == 84 then says (codes "Memory") (codes "There is not enough memory") else
    if n == 85 then says (codes "Occupied") (codes "A file of this level is there already, and stays as it is") else
    if n == 86 then says (codes "Old") (codes "The file is of version 1, whose distances need not be the least") else
    if n == 90 then says (codes "Read") (codes "The lines of the service can't be read") else
    if n == 91 then says (codes "TooLong") (codes "The lines for the service have more than 100,000,000 bytes in all") else
    if n == 92 then says (codes "Write") (codes "The answers of the service can't be written") else
    if n == 93 then says (codes "NoRank") (codes "The level has fewer boards") else
    if n == 94 then says (codes "Overflow") (codes "There are 2^64 plays or more, which are not counted") else
    if n == 95 then says (codes "Span") (codes "A span is A..B, A.., ..B or A, the lower end first, of numbers of at most 64 bits") else
    if n == 96 then says (codes "Column") (codes "Boards can't be sorted or counted by that") else
    says [] (codes "No answer has this number")

abbrev pub meant_by : ℕ → Meant
meant_by n = if nat_lt n 30 then of_tables n else if nat_lt n 60 then of_builds n else of_files n

-- the name of the refusals of a number, empty for a number of none
unfoldable pub name_of : ℕ → List ℕ
name_of n = (meant_by n).name

-- the sentence of an answer, and of each other number that it is none
unfoldable pub sentence : ℕ → List ℕ
sentence n = (meant_by n).sentence

-- of 22, where the rule is V7, which a level's limit breaks
abbrev pub sentence_of_limit : List ℕ
sentence_of_limit = codes "The limit of the level is not its greatest distance"
