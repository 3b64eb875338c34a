-- What is known of the folders of the host in memory: all of its two, and that any other is empty.
use Rattle.std.specs.Prelude.{ℕ, List, Some, None, Bool, true, false, codes}
use Rattle.std.specs.Str.{bytes_eq}
use Rattle.awari_folder.specs.Contents.{Stands}
use Rattle.awari_file_tests.specs.Log.{files_in}
use Rattle.awari_file_tests.specs.declared.memory.MemoryFolder.{MemoryFolder}
use Rattle.awari_cli_tests.specs.declared.hosts.MemoryHost.{MemoryHost}

-- what the names of levels have in a folder in memory
abbrev pub stands_in : MemoryFolder → Stands
stands_in folder = λ level. Some (files_in folder level)

-- the one of the first test that passes, or that of an empty folder
abbrev pub chosen : Bool → Bool → Stands → Stands → Stands
chosen true is_second first second = first
chosen false true first second = second
chosen false false first second = λ level. Some None

unfoldable pub known_of : MemoryHost → List ℕ → Stands
known_of host name = chosen (bytes_eq name (codes "first")) (bytes_eq name (codes "second")) (stands_in host.first) (stands_in host.second)
