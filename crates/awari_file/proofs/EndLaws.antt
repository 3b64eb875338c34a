-- The digest, and the end behind it.
use Rattle.std.proofs.Common.{append_assoc, ◌≡◌, ◌≢◌, ℕ, ◌<◌, ◌≤◌, Bool, true, false, cond, eqb, ltb, List, [], ◌∷◌, ◌++◌, length, take, drop, Option, Some, Result, Ok, Err, refl, sym, ap, subst, ◌∙◌, arith}
use Rattle.std.specs.Io.KnownBytes.{Consumes}
use Rattle.std.proofs.lemmas.List.{length-append, nil_from_length, take_at, drop_at, length-take, take-append-drop}
use Rattle.std.proofs.lemmas.Bool.{ne_eqb, le-ltb, lt-ltb, ltb-true, ltb-false, false_from_ne_true}
use Rattle.std.proofs.lemmas.Slice.Eq.{bytes_eq-Decides}
use Rattle.std.specs.Str.{bytes_eq}
use Rattle.sha2.specs.Sha256.{sha256}
use Rattle.awari_file.specs.declared.faults.FileFault.{FileFault}
use Rattle.awari_file.specs.declared.faults.FileFault.TheVariants as faults
use Rattle.awari_file.specs.Reading.{◌>>=◌, field, digest_if, as_they_are, end_at}
use Rattle.awari_file.specs.Source as source
use Rattle.awari_file.specs.Source.{StopsIn}
use Rattle.awari_file.specs.Sealing.{Ends, EndsEarly, IsBehind, TellsBehind, behind_by}
use Rattle.awari_streams.specs.Counted.{Grew}
use Rattle.awari_file.proofs.FieldLaws.{guard_ok, ok_is, err_is}
use Rattle.awari_file.proofs.Steps.{consumes_some, end_is}

-- ---- what is made of the end

abbrev ended : Result (List ℕ × List ℕ) FileFault → Result (List ℕ) FileFault
ended read = read >>= λ digest. cond (eqb (length digest.1) 0) (Ok digest.0) (Err faults.Trailing)

whole_field : (made : List ℕ → Result (List ℕ) FileFault) (s : FileFault) (digest over : List ℕ) → length digest ≡ 32 → field 32 made s (digest ++ over) ≡ (made digest >>= λ y. Ok (y, over))
whole_field made s digest over size =
    let long : ltb (length (digest ++ over)) 32 ≡ false = le-ltb _ _ (omega (arith, length-append digest over, size)) in
    rw (long, take_at digest over 32 size, drop_at digest over 32 size) refl

end_named : (body digest over : List ℕ) → length digest ≡ 32 → end_at body faults.Truncated (digest ++ over) ≡ ended (digest_if (sha256 body) digest >>= λ y. Ok (y, over))
unfolding end_at
end_named body digest over size = ap ended (whole_field (digest_if (sha256 body)) faults.Truncated digest over size)

pub another_digest : (body digest over : List ℕ) → length digest ≡ 32 → digest ≢ sha256 body → end_at body faults.Truncated (digest ++ over) ≡ Err faults.Digest
another_digest body digest over size other =
    let differs : bytes_eq digest (sha256 body) ≡ false = false_from_ne_true _ (λ e. other ((bytes_eq-Decides digest (sha256 body)).0 e)) in
    end_named body digest over size ∙ rw differs refl

own_digest : (body digest over : List ℕ) → length digest ≡ 32 → digest ≡ sha256 body → end_at body faults.Truncated (digest ++ over) ≡ ended (Ok (digest, over))
own_digest body digest over size same =
    let is : bytes_eq digest (sha256 body) ≡ true = (bytes_eq-Decides digest (sha256 body)).1 same in
    end_named body digest over size ∙ rw is refl

pub nothing_behind : (body digest : List ℕ) → length digest ≡ 32 → digest ≡ sha256 body → end_at body faults.Truncated (digest ++ []) ≡ Ok digest
nothing_behind body digest size same = own_digest body digest [] size same

pub some_behind : (body digest over : List ℕ) → length digest ≡ 32 → digest ≡ sha256 body → over ≢ [] → end_at body faults.Truncated (digest ++ over) ≡ Err faults.Trailing
some_behind body digest over size same some =
    let long : eqb (length over) 0 ≡ false = ne_eqb _ _ (λ e. some (nil_from_length over e)) in
    own_digest body digest over size same ∙ rw long refl

pub too_short : (body left : List ℕ) → length left < 32 → end_at body faults.Truncated left ≡ Err faults.Truncated
unfolding end_at
too_short body left short = let less : ltb (length left) 32 ≡ true = lt-ltb _ _ short in rw less refl

-- ---- what a reader has of it

pub parted : (front digest over : List ℕ) (s : FileFault) → field 32 as_they_are s front ≡ Ok (digest, over) → (length digest ≡ 32) × (front ≡ digest ++ over)
parted front digest over s h =
    let g = guard_ok (ltb (length front) 32) s (Ok (take 32 front, drop 32 front)) (digest, over) h in
    let cut : List ℕ × List ℕ = (take 32 front, drop 32 front) in
    let made : List ℕ × List ℕ = (digest, over) in
    let same : cut ≡ made = ok_is cut made g.1 in
    let first : take 32 front ≡ digest = ap (λ (p : List ℕ × List ℕ). p.0) same in
    let second : drop 32 front ≡ over = ap (λ (p : List ℕ × List ℕ). p.1) same in (
      sym (ap length first) ∙ omega (arith, length-take 32 front, ltb-false _ _ g.0),
      sym (take-append-drop 32 front) ∙ ap (λ (l : List ℕ). l ++ drop 32 front) first ∙ ap (λ (l : List ℕ). digest ++ l) second,
    )

why_behind : (s : FileFault) (b : Option (List ℕ)) (rest : List ℕ) (old new : ℕ) → b ≡ Some rest → source.IsWhy s b old new → IsBehind (behind_by [] s) [] rest
why_behind faults.Truncated b rest old new is why = (refl, end_is b rest is why)
why_behind faults.Read b rest old new is why = refl
why_behind faults.Memory b rest old new is why = absurd why
why_behind faults.Magic b rest old new is why = absurd why
why_behind faults.Version b rest old new is why = absurd why
why_behind faults.LevelOutOfRange b rest old new is why = absurd why
why_behind faults.Count b rest old new is why = absurd why
why_behind faults.EntryForm b rest old new is why = absurd why
why_behind faults.Digest b rest old new is why = absurd why
why_behind faults.Trailing b rest old new is why = absurd why
why_behind faults.Write b rest old new is why = absurd why

behind_is : (over : List ℕ) (s : FileFault) (b : Option (List ℕ)) (rest : List ℕ) (old new : ℕ) → b ≡ Some rest → (length over < 1 → source.IsWhy s b old new) → IsBehind (behind_by over s) over rest
behind_is [] s b rest old new is why = why_behind s b rest old new is (why (omega arith))
behind_is (x ∷ over) s b rest old new is why = λ none. absurd cc

pub end_there : (s : FileFault) (front left digest over : List ℕ) (a b : Option (List ℕ)) (old new : ℕ) → a ≡ Some left → Consumes a b front → (length front < 33 → source.IsWhy s b old new)
    → field 32 as_they_are s front ≡ Ok (digest, over) → Ends digest (behind_by over s) left b
end_there s front left digest over a b old new known took why h =
    let (rest, b-is, parts) = consumes_some a b left front known took in
    let cut = parted front digest over s h in
    record {
      over = over;
      rest = rest;
      whole = cut.0;
      known_is = b-is;
      parts = parts ∙ ap (λ (l : List ℕ). l ++ rest) cut.1 ∙ append_assoc digest over rest;
      behind_is = behind_is over s b rest old new b-is (λ none. why (omega (arith, none, ap length cut.1, length-append digest over, cut.0)));
    }

by_length : (b : Bool) (front : List ℕ) (s e : FileFault) → ltb (length front) 32 ≡ b → cond {A = Result (List ℕ × List ℕ) FileFault} b (Err s) (Ok (take 32 front, drop 32 front)) ≡ Err e → (length front < 32) × (e ≡ s)
by_length true front s e is h = (ltb-true _ _ is, sym (err_is {A = List ℕ × List ℕ} s e h))
by_length false front s e is h = absurd cc

pub short_front : (front : List ℕ) (s e : FileFault) → field 32 as_they_are s front ≡ Err e → (length front < 32) × (e ≡ s)
short_front front s e h = by_length (ltb (length front) 32) front s e refl h

early : (s : FileFault) (front left rest : List ℕ) (b : Option (List ℕ)) (old new : ℕ) → b ≡ Some rest → left ≡ front ++ rest → length front < 32 → source.IsWhy s b old new → EndsEarly left b s
early faults.Truncated front left rest b old new is parts short why = omega (arith, short, ap length parts, length-append front rest, ap length (end_is b rest is why))
early faults.Read front left rest b old new is parts short why = record { came = front; rest = rest; known_is = is; parts = parts; kind = short }
early faults.Memory front left rest b old new is parts short why = absurd why
early faults.Magic front left rest b old new is parts short why = absurd why
early faults.Version front left rest b old new is parts short why = absurd why
early faults.LevelOutOfRange front left rest b old new is parts short why = absurd why
early faults.Count front left rest b old new is parts short why = absurd why
early faults.EntryForm front left rest b old new is parts short why = absurd why
early faults.Digest front left rest b old new is parts short why = absurd why
early faults.Trailing front left rest b old new is parts short why = absurd why
early faults.Write front left rest b old new is parts short why = absurd why

pub end_missing : (s e : FileFault) (front left : List ℕ) (a b : Option (List ℕ)) (old new : ℕ) → a ≡ Some left → Consumes a b front → (length front < 33 → source.IsWhy s b old new)
    → field 32 as_they_are s front ≡ Err e → EndsEarly left b e
end_missing s e front left a b old new known took why h =
    let (rest, b-is, parts) = consumes_some a b left front known took in
    let short = short_front front s e h in
    subst (EndsEarly left b) (sym short.1) (early s front left rest b old new b-is parts short.0 (why (omega (arith, short.0))))

pub tells_behind : (over : List ℕ) (s : FileFault) (old new : ℕ) → (s ≡ faults.Read → Grew old new) → (s ≢ faults.Read → new ≡ old) → (1 ≤ length over → new ≡ old) → old ≤ new → TellsBehind (behind_by over s) old new
tells_behind (x ∷ over) s old new read calm some more = some (omega arith)
tells_behind [] faults.Read old new read calm some more = (read refl, more)
tells_behind [] faults.Truncated old new read calm some more = calm (λ is. absurd cc)
tells_behind [] faults.Memory old new read calm some more = calm (λ is. absurd cc)
tells_behind [] faults.Magic old new read calm some more = calm (λ is. absurd cc)
tells_behind [] faults.Version old new read calm some more = calm (λ is. absurd cc)
tells_behind [] faults.LevelOutOfRange old new read calm some more = calm (λ is. absurd cc)
tells_behind [] faults.Count old new read calm some more = calm (λ is. absurd cc)
tells_behind [] faults.EntryForm old new read calm some more = calm (λ is. absurd cc)
tells_behind [] faults.Digest old new read calm some more = calm (λ is. absurd cc)
tells_behind [] faults.Trailing old new read calm some more = calm (λ is. absurd cc)
tells_behind [] faults.Write old new read calm some more = calm (λ is. absurd cc)
