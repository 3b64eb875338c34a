-- Why boards of a level are not listed, where no name changed.
use Rattle.std.proofs.Common.{◌≡◌, ℕ, List, Option, inl, inr, sum, subst, arith}
use Rattle.awari_facts.proofs.SourceLaws.{unread_before}
use Rattle.awari_facts.specs.Sources.{IsUnreadAt, IsUnreadFrom}
use Rattle.awari_facts.specs.declared.sources.Source.{Source}
use Rattle.awari_facts.specs.declared.sources.Source.TheVariants.{Memory, Files}
use Rattle.awari_folder.specs.Contents.{Same, Stands}
use Rattle.awari_folder.specs.declared.faults.FolderFault.{FolderFault}
use Rattle.awari_facts.proofs.RankLaws.{rank-inside}
use Rattle.awari_levels.specs.Listing.{IsListFault}
use Rattle.awari_places.specs.Faults.{IsEntryFault, IsFaultFrom}
use Rattle.awari_rank.specs.Rank.{rank_of}

pub list_entry : (source : Source) (level rank : ℕ) (old new : Stands) (fault : FolderFault) → Same old new → IsUnreadFrom source level rank (new level) fault → IsListFault source level old fault
list_entry source level rank old new fault same is = inr (unread_before source level rank old new fault same is)

pub list_before : (source : Source) (level : ℕ) (old new : Stands) (fault : FolderFault) → Same old new → IsListFault source level new fault → IsListFault source level old fault
list_before source level old new fault same (inl is) = inl is
list_before source level old new fault same (inr is) = inr (unread_before source level 0 old new fault same is)

-- a board of the level is not read
pub list_board : (source : Source) (level : ℕ) (old new : Stands) (board : List ℕ) (fault : FolderFault) → Same old new → sum board ≡ level → IsUnreadAt source new board fault → IsListFault source level old fault
list_board (Memory levels) level old new board fault same stones is = absurd is
list_board (Files levels) level old new board fault same stones is =
    let due : IsEntryFault (sum board) (rank_of board) (old (sum board)) fault = subst (λ (known : Option (Option (List ℕ))). IsEntryFault (sum board) (rank_of board) known fault) (same (sum board)) is.due in
    let here : IsFaultFrom (sum board) 0 (old (sum board)) fault = record { at = rank_of board; from = omega arith; there = rank-inside board is.is_board; due = due } in
    inr (subst (λ (n : ℕ). IsFaultFrom n 0 (old n) fault) stones here)

pub ruleset faults = (list_entry, list_before)
