-- What is known of the folders of the host in memory, by their names.
use Rattle.std.proofs.Common.{◌≡◌, ◌≢◌, ◌∙◌, ℕ, List, Some, None, Bool, true, false, codes, refl, sym, ap}
use Rattle.std.specs.Prelude.{bytes_eq}
use Rattle.std.proofs.lemmas.Slice.Eq.{bytes_eq-Decides}
use Rattle.awari_folder.specs.Contents.{Stands}
use Rattle.awari_host.specs.Hosts.{OthersStay}
use Rattle.awari_file_tests.specs.Log.{files_in}
use Rattle.awari_file_tests.specs.declared.memory.MemoryFolder.{MemoryFolder}
use Rattle.awari_cli_tests.specs.Known.{chosen, known_of, stands_in}
use Rattle.awari_cli_tests.specs.declared.hosts.MemoryHost.{MemoryHost}

-- the folder of the first name
pub known_first : (host : MemoryHost) (name : List ℕ) → bytes_eq name (codes "first") ≡ true → known_of host name ≡ stands_in host.first
unfolding known_of
known_first host name is_first = ap (λ (b : Bool). chosen b (bytes_eq name (codes "second")) (stands_in host.first) (stands_in host.second)) is_first

-- the folder of the second name
pub known_second : (host : MemoryHost) (name : List ℕ) → bytes_eq name (codes "first") ≡ false → bytes_eq name (codes "second") ≡ true
    → known_of host name ≡ stands_in host.second
unfolding known_of
known_second host name not_first is_second =
    ap (λ (b : Bool). chosen b (bytes_eq name (codes "second")) (stands_in host.first) (stands_in host.second)) not_first
    ∙ ap (λ (b : Bool). chosen false b (stands_in host.first) (stands_in host.second)) is_second

-- a folder of another name, which is empty
pub known_other : (host : MemoryHost) (name : List ℕ) (folder : MemoryFolder) → bytes_eq name (codes "first") ≡ false → bytes_eq name (codes "second") ≡ false
    → ((level : ℕ) → files_in folder level ≡ None) → stands_in folder ≡ known_of host name
unfolding known_of
known_other host name folder not_first not_second empty =
    let is_empty : stands_in folder ≡ (λ (level : ℕ). Some None) = λ i level. Some (empty level i) in
    is_empty
    ∙ sym (ap (λ (b : Bool). chosen b (bytes_eq name (codes "second")) (stands_in host.first) (stands_in host.second)) not_first
    ∙ ap (λ (b : Bool). chosen false b (stands_in host.first) (stands_in host.second)) not_second)

-- two names that are not one are told apart
apart : (name other what : List ℕ) → bytes_eq name what ≡ true → other ≢ name → bytes_eq other what ≡ false
apart name other what is differs = go (bytes_eq other what) refl
  where
    go : (b : Bool) → bytes_eq other what ≡ b → bytes_eq other what ≡ false
    go true e = absurd (differs ((bytes_eq-Decides other what).0 e ∙ sym ((bytes_eq-Decides name what).0 is)))
    go false e = e

-- what the first folder has is for its name alone
first_alone : (b : Bool) (first first' second : Stands) → chosen false b first' second ≡ chosen false b first second
first_alone true first first' second = refl
first_alone false first first' second = refl

-- what the second folder has is for its name alone
second_alone : (b : Bool) (first second second' : Stands) → chosen b false first second' ≡ chosen b false first second
second_alone true first second second' = refl
second_alone false first second second' = refl

-- another first folder
pub others_first : (old new : MemoryHost) (name : List ℕ) → bytes_eq name (codes "first") ≡ true → new.second ≡ old.second → OthersStay name (known_of old) (known_of new)
unfolding known_of
others_first old new name is_first same other differs =
    let not_first = apart name other (codes "first") is_first differs in
    ap (λ (b : Bool). chosen b (bytes_eq other (codes "second")) (stands_in new.first) (stands_in new.second)) not_first
    ∙ ap (λ (folder : MemoryFolder). chosen false (bytes_eq other (codes "second")) (stands_in new.first) (stands_in folder)) same
    ∙ first_alone (bytes_eq other (codes "second")) (stands_in old.first) (stands_in new.first) (stands_in old.second)
    ∙ sym (ap (λ (b : Bool). chosen b (bytes_eq other (codes "second")) (stands_in old.first) (stands_in old.second)) not_first)

-- another second folder
pub others_second : (old new : MemoryHost) (name : List ℕ) → bytes_eq name (codes "second") ≡ true → new.first ≡ old.first → OthersStay name (known_of old) (known_of new)
unfolding known_of
others_second old new name is_second same other differs =
    let not_second = apart name other (codes "second") is_second differs in
    ap (λ (b : Bool). chosen (bytes_eq other (codes "first")) b (stands_in new.first) (stands_in new.second)) not_second
    ∙ ap (λ (folder : MemoryFolder). chosen (bytes_eq other (codes "first")) false (stands_in folder) (stands_in new.second)) same
    ∙ second_alone (bytes_eq other (codes "first")) (stands_in old.first) (stands_in old.second) (stands_in new.second)
    ∙ sym (ap (λ (b : Bool). chosen (bytes_eq other (codes "first")) b (stands_in old.first) (stands_in old.second)) not_second)
