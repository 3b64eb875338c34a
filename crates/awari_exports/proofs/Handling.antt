-- The machine values of a handle. Assumes `Logic`.
use Rattle.std.proofs.Common.{◌≡◌, List, [], ◌∷◌, ◌++◌, refl}
use mathlib.Core.Bool.{Bool}
use seplogic.Ra.Ura.{Ura}
use mir.Val.{Val, vbool, vstruct, of_list}
use types.Logic.{Logic}
use types.Kit.{Item, Goal, Seq, Step, step, ‵, ◌$◌, drop, fsplit, fjoin, fpick, fpack, feq_i, feq_l}
use denote.RattleType.{RattleType, Valss}
use denote.Builtin.{RawPtr, bool}
use denote.RawPtr.{Ptr, ptr_val}
use denote.Steps.{nothing}
use denote.Struct.Struct.{within}
use denote.Struct.Owning.{shape}
use Rattle.awari_exports.specs.Held.{HeldView}
use Rattle.awari_exports.proofs.Values.{both}
use Rattle.awari_exports.specs.Owned.{owned}
use Rattle.awari_exports.specs.contracts.handles.Handle as held

abbrev pub Held : RattleType
Held = held.the_row

module _ {M : Type 1} {𝓤 : Ura M} {𝓛 : Logic 𝓤} {K : Type 0} {Γ : List (Item 𝓤)} {G : Goal 𝓤 𝓛.H} where
  pub handle_in : K → (p : Ptr) (t : Bool) (x : HeldView)
      → Step K 𝓛 (‵ (Held.own_val (record { at = p; is_open = t; held = x }) (both (ptr_val p) (vbool t) ∷ [])) ∷ Γ) G (‵ (owned t p x) ∷ Γ) G
  handle_in k p t x = step (λ s. let v : Val = both (ptr_val p) (vbool t) in
      nothing k $ feq_i k (List Val) (vbool t ∷ []) (vbool t ∷ []) refl $ fjoin k $ feq_i k (List Val) (ptr_val p ∷ []) (ptr_val p ∷ []) refl $ fjoin k $ feq_i k (List Val) (v ∷ []) (v ∷ []) refl $ fjoin k $
      fpack k (Valss (RawPtr ∷ bool ∷ [])) (within (shape held.the_type) (p, (t, tt)) (v ∷ [])) (ptr_val p ∷ [], (vbool t ∷ [], tt)) $ fjoin k $ s)

  pub handle_out : K → (d : Held.Denot) (vs : List Val)
      → (vs ≡ both (ptr_val d.at) (vbool d.is_open) ∷ [] → Seq K 𝓛 (‵ (owned d.is_open d.at d.held) ∷ Γ) G)
      → Seq K 𝓛 (‵ (Held.own_val d vs) ∷ Γ) G
  handle_out t d vs k = fsplit t $ fpick t (λ vss. fsplit t $ feq_l t (λ ev. fsplit t $ feq_l t (λ ep. fsplit t $ feq_l t (λ eb. drop t $
      k (mathlib.Core.Path.◌∙◌ ev (λ n. vstruct (of_list (ep n ++ (eb n ++ []))) ∷ []))))))
