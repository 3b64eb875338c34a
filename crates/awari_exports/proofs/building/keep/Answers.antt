use Rattle.std.proofs.Common.{ℕ, List, ◌∙◌, ap, length, refl, rules, subst, sym}
use Rattle.awari_folder.specs.NextFile.{IsNextFile}
use Rattle.awari_exports.proofs.Built.{built, long_as_file}
use Rattle.awari_exports.proofs.building.keep.Goals as goal

pub copy_from_slice-requires : goal.copy_from_slice-requires
copy_from_slice-requires c =
    let has = c.in-Some.ensures in
    c.requires.room ∙ sym (ap (λ (l : List ℕ). length l) (c.as_slice.ensures.value ∙ has.1) ∙ long_as_file c.args.held.now.stored.shelf c.args.level _ c.requires.next.consistent has.0)

pub returns-clause-puts_on : goal.returns-clause-puts_on
returns-clause-puts_on c = record {
  ok = λ _.
      let has = c.in-Some.ensures in
      subst (λ (d : List ℕ). IsNextFile c.args.held.now.stored.shelf d c.copy_from_slice.new.self c.put_on.new.self.stored.shelf c.put_on.new.self.stored.digest) c.digest-below.ensures
      (built _ _ _ c.in-Some.written.bytes.items _ c.args.level _ _ c.requires.next.consistent has.0 has.1 (c.copy_from_slice.ensures.after ∙ c.as_slice.ensures.value) (c.put_on.ensures.digest ∙ has.2) c.in-Ok.ensures.ok c.put_on.ensures.shelf);
  meaning = search rules;
  planned = search rules;
  kept = λ some. absurd (some refl);
  untouched = λ some. absurd (some refl);
}
