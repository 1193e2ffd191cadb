-- The machine value of a handle. Assumes `Logic`.
use Rattle.std.proofs.Common.{◌≡◌, List, [], ◌∷◌, ◌++◌, refl, subst, Global}
use mathlib.Core.Bool.{Bool, true, false}
use lib.Dec.{T}
use seplogic.Ra.Ura.{Ura}
use mir.Syntax.{impl, tnil, dnil}
use mir.Val.{Val, vbool, vstruct, vcons, vnil, of_list, has_ty, WT}
use base.Fml.{Fml, ftrue}
use types.Logic.{Logic}
use types.Kit.{Item, Goal, Seq, Step, step, ‵, ◌$◌, move, drop, fsplit, fjoin, fpick, fpack, rewrite, feq_i, feq_l}
use denote.RattleType.{RattleType, Valss}
use denote.Builtin.{RawPtr, bool}
use denote.RawPtr.{Ptr, block_ptr, null_ptr, ptr_val}
use denote.Steps.{nothing}
use denote.Param.{layout}
use denote.Struct.Struct.{within}
use denote.Struct.Owning.{shape}
use Rattle.core.proofs.alloc.Calls.{Al, handle_tells}
use Rattle.core.proofs.cell.Inside.{Good}
use Rattle.core.proofs.atomic.Steps.{Ptr-Good}
use Rattle.std_alloc.specs.Box.Ownership.{box_owns}
use Rattle.std_alloc.proofs.ResultValues.{and_tt}
use Rattle.std_heap.specs.contracts.GlobalAllocator.TheImpl.{ghosts}
use Rattle.board_c.specs.Owned.{owned_if}
use Rattle.std_heap.specs.contracts.Global as heap
use Rattle.std_heap.proofs.Global.TheLaws as heap_laws
use Rattle.board_c.specs.contracts.opened.Opened as opened_row
use Rattle.board_c.specs.contracts.handle.Handle as handle

abbrev pub R : RattleType
R = opened_row.the_row

abbrev pub Z : RattleType
Z = heap.the_row

abbrev pub H : RattleType
H = handle.the_row

abbrev pub three : Val → Bool → Val → Val
three p f h = vstruct (vcons p (vcons (vbool f) (vcons h vnil)))

-- what an open handle owns
abbrev pub B : H.Denot → Fml
B d = box_owns (ghosts.dealloc_token d.alloc) R d.at d.held

abbrev pub al : Al
al = record { row = Z; laws = heap_laws.the_row_laws; g = ghosts; d = impl [] tnil dnil; drops = impl [] tnil dnil }

pub handle_good : (p : Ptr) (f : Bool) (h : Val) → Good (layout Z) h → T (has_ty (layout H) (three (ptr_val p) f h))
    × WT (three (ptr_val p) f h)
handle_good (block_ptr b o) f h fits = (and_tt (has_ty (layout Z) h) fits.0, (tt, (tt, (fits.1, tt))))
handle_good null_ptr f h fits = (and_tt (has_ty (layout Z) h) fits.0, ((Ptr-Good null_ptr).1, (tt, (fits.1, tt))))

module _ {M : Type 1} {𝓤 : Ura M} {𝓛 : Logic 𝓤} {K : Type 0} {Γ : List (Item 𝓤)} {G : Goal 𝓤 𝓛.H} where
  pub handle_in : K → (p : Ptr) (f : Bool) (h : Val) (a : Global) (x : R.Denot)
      → Step K 𝓛 (‵ (H.own_val (record { at = p; full = f; alloc = a; held = x }) (three (ptr_val p) f h ∷ [])) ∷ Γ) G
      (‵ (owned_if f (box_owns (ghosts.dealloc_token a) R p x)) ∷ ‵ (Z.own_val a (h ∷ [])) ∷ Γ) G
  handle_in t p f h a x = step (λ s. let v : Val = three (ptr_val p) f h in
      nothing t $ move t (2 ∷ 0 ∷ []) $ fjoin t $ feq_i t (List Val) (vbool f ∷ []) (vbool f ∷ []) refl $ fjoin t $
      feq_i t (List Val) (ptr_val p ∷ []) (ptr_val p ∷ []) refl $ fjoin t $
      feq_i t (List Val) (v ∷ []) (v ∷ []) refl $ fjoin t $
      fpack t (Valss (RawPtr ∷ bool ∷ Z ∷ [])) (within (shape handle.the_type) (p, (f, ((heap.the_field).into a, tt)))
      (v ∷ [])) (ptr_val p ∷ [], (vbool f ∷ [], (h ∷ [], tt))) $ fjoin t $ s)

  pub handle_out : K → (d : H.Denot) (vs : List Val)
      → ((h : Val) → vs ≡ three (ptr_val d.at) d.full h ∷ [] → Good (layout Z) h →
      Seq K 𝓛 (‵ (owned_if d.full (box_owns (ghosts.dealloc_token d.alloc) R d.at d.held))
      ∷ ‵ (Z.own_val d.alloc (h ∷ [])) ∷ Γ) G)
      → Seq K 𝓛 (‵ (H.own_val d vs) ∷ Γ) G
  handle_out t d vs k =
      fsplit t $ fpick t (λ vss. fsplit t $
      feq_l t (λ ev. fsplit t $
      feq_l t (λ ep. fsplit t $
      feq_l t (λ eb. fsplit t $ handle_tells al t d.alloc vss.1.1.0 (λ h ea fits. move t (1 ∷ []) $ drop t $
      move t (1 ∷ []) $
      k h
      (subst (λ (ws : List Val). vs ≡ vstruct (of_list (ptr_val d.at ∷ vbool d.full ∷ (ws ++ []))) ∷ []) ea
      (subst (λ (bs : List Val). vs ≡ vstruct (of_list (ptr_val d.at ∷ (bs ++ (vss.1.1.0 ++ [])))) ∷ []) eb
      (subst (λ (ps : List Val). vs ≡ vstruct (of_list (ps ++ (vss.1.0 ++ (vss.1.1.0 ++ [])))) ∷ []) ep ev))) fits)))))

  by_full : K → (d : H.Denot) (vs : List Val) (f : Bool) → d.full ≡ f → (h : Val) →
      vs ≡ three (ptr_val d.at) d.full h ∷ [] → Good (layout Z) h
      → ((h : Val) → d.full ≡ true → vs ≡ three (ptr_val d.at) true h ∷ [] → Good (layout Z) h →
      Seq K 𝓛 (‵ (B d) ∷ ‵ (Z.own_val d.alloc (h ∷ [])) ∷ Γ) G)
      → ((h : Val) → d.full ≡ false → vs ≡ three (ptr_val d.at) false h ∷ [] → Good (layout Z) h →
      Seq K 𝓛 (‵ ftrue ∷ ‵ (Z.own_val d.alloc (h ∷ [])) ∷ Γ) G)
      → Seq K 𝓛 (‵ (owned_if d.full (B d)) ∷ ‵ (Z.own_val d.alloc (h ∷ [])) ∷ Γ) G
  by_full t d vs true e h ws fits there gone = rewrite t 0 (λ (f : Bool). ‵ (owned_if f (B d))) e refl $
      there h e (subst (λ (f : Bool). vs ≡ three (ptr_val d.at) f h ∷ []) e ws) fits
  by_full t d vs false e h ws fits there gone = rewrite t 0 (λ (f : Bool). ‵ (owned_if f (B d))) e refl $
      gone h e (subst (λ (f : Bool). vs ≡ three (ptr_val d.at) f h ∷ []) e ws) fits

  -- a handle by value, where it is open and where it is not
  pub handle_cases : K → (d : H.Denot) (vs : List Val)
      → ((h : Val) → d.full ≡ true → vs ≡ three (ptr_val d.at) true h ∷ [] → Good (layout Z) h →
      Seq K 𝓛 (‵ (B d) ∷ ‵ (Z.own_val d.alloc (h ∷ [])) ∷ Γ) G)
      → ((h : Val) → d.full ≡ false → vs ≡ three (ptr_val d.at) false h ∷ [] → Good (layout Z) h →
      Seq K 𝓛 (‵ ftrue ∷ ‵ (Z.own_val d.alloc (h ∷ [])) ∷ Γ) G)
      → Seq K 𝓛 (‵ (H.own_val d vs) ∷ Γ) G
  handle_cases t d vs there gone = handle_out t d vs (λ h ws fits. by_full t d vs d.full refl h ws fits there gone)
