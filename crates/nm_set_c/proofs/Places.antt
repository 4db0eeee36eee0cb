-- The machine values of a place, what it holds, and what a call on the box of its owner passes.
-- Assumes `Logic`.
use Rattle.std.proofs.Common.{◌≡◌, ℕ, List, [], ◌∷◌, ◌++◌, refl, subst, lit<}
use seplogic.Ra.Ura.{Ura}
use mir.Syntax.{Dict, Callee, impl, method, no_args, tnil, tcons, dnil}
use mir.Raw.{raw as bare}
use mir.Val.{Val, vptr, vstruct, vcons, vnil, of_list, has_ty}
use base.Fraction.{full_share}
use base.Logic.{SProp, ent, sep, ex, emp, emp∗, guard, via, never, fst∗, snd∗, guard_i}
use base.Fml.{ftrue, fsep}
use prog.Model.{Model}
use prog.Wired.{Wired}
use types.Logic.{Logic, sem}
use types.Kit.{Item, Goal, Seq, Step, step, ‵, raw, given, ◌$◌, ◌∵◌, !, qed, move, keep, drop, join, fsplit, fjoin, fpick, fpack, feq_i, feq_l, use1, learn, show, done}
use contract.Monad.{fact_use}
use contract.Running.{Running}
use denote.Exit.{no}
use denote.RattleType.{RattleType, Valss}
use denote.Builtin.{RawPtr}
use denote.Memory.{lone}
use denote.RawPtr.{Ptr, block_ptr, null_ptr, ptr_val, in_a_block, lies_at, Testable}
use denote.Steps.{nothing}
use denote.Param.{layout, arg}
use denote.Param.Glue.{Met}
use denote.Param.Laws.{Laws, arg_laws}
use denote.Struct.Struct.{within}
use denote.Struct.Owning.{shape}
use denote.Triple.Carry.{beside, spared}
use denote.Triple.Spec.{Spec, triple_of}
use denote.Triple.Table.{run_framed, widened}
use Rattle.core.proofs.alloc.Calls.{Al, handle_tells}
use Rattle.core.proofs.cell.Inside.{Good}
use Rattle.std.specs.Prelude.{Option, Some, None}
use Rattle.std.specs.Box.Ownership.{box_owns}
use Rattle.std.specs.contracts.alloc.Global as heap
use Rattle.std.proofs.alloc.Global.TheLaws as heap_laws
use Rattle.std.specs.contracts.impls.GlobalAllocator.TheImpl.{ghosts, dict}
use Rattle.std.proofs.GlobalToken.{dealloc_token-Testable}
use Rattle.nm_set_c.specs.contracts.owner.Owner as inner
use Rattle.nm_set_c.specs.Places.{owned_at}
use Rattle.nm_set_c.specs.contracts.place.Place as place
use Rattle.nm_set_c.proofs.owner.Owner.TheLaws as owner_laws
use Rattle.nm_set_c.proofs.Destruct++none.drop.Symbol as no_drop
use Rattle.nm_set_c.specs.contracts.nm_set_c++owner++Owner+Destruct.drop as dropping
use Rattle.nm_set_c.proofs.nm_set_c++owner++Owner+Destruct.drop.Symbol as its_drop
use Rattle.nm_set_c.proofs.nm_set_c++owner++Owner+Destruct.drop.Met as drop_met
use Rattle.std_alloc.proofs.BoxSteps.Form as box
use Rattle.std_alloc.proofs.ResultValues.{and_tt}

-- the machine value of a struct of two fields
abbrev pub both : Val → Val → Val
both v w = vstruct (vcons v (vcons w vnil))

-- an owner, the heap's handle, and a place
abbrev pub R : RattleType
R = inner.the_row

abbrev pub Z : RattleType
Z = heap.the_row

abbrev pub Place : RattleType
Place = place.the_row

-- the heap as an allocator, of which the machine value alone is read
abbrev pub al : Al
al = record { row = Z; laws = heap_laws.the_row_laws; g = ghosts; d = impl [] tnil dnil; drops = impl [] tnil dnil }

-- a null pointer, or one to a block, beside the heap's handle is a value of a place's type
pub null_good : (h : Val) → Good (layout Z) h → Good (layout Place) (both (ptr_val null_ptr) h)
null_good h fits = (and_tt (has_ty (layout Z) h) fits.0, (record { fits = lit< tt }, (fits.1, tt)))

pub block_good : (b o : ℕ) (h : Val) → Good (layout Z) h → Good (layout Place) (both (vptr b o) h)
block_good b o h fits = (and_tt (has_ty (layout Z) h) fits.0, (tt, (fits.1, tt)))

module _ {M : Type 1} {𝓤 : Ura M} {𝓛 : Logic 𝓤} {K : Type 0} {Γ : List (Item 𝓤)} {G : Goal 𝓤 𝓛.H} where
  -- a place is its pointer and the heap's, with what it holds, and is made of these
  pub place_out : K → (d : Place.Denot) (vs : List Val)
      → ((h : Val) → vs ≡ both (ptr_val d.at) h ∷ [] → Good (layout Z) h
      → Seq K 𝓛 (‵ (owned_at d.alloc d.at d.held) ∷ ‵ (Z.own_val d.alloc (h ∷ [])) ∷ Γ) G)
      → Seq K 𝓛 (‵ (Place.own_val d vs) ∷ Γ) G
  place_out t d vs k =
      fsplit t $ fpick t (λ vss. fsplit t $ feq_l t (λ ev. fsplit t $ feq_l t
      (λ ep. fsplit t $ handle_tells al t d.alloc vss.1.0
      (λ h ea fits. move t (1 ∷ []) $ drop t $ move t (1 ∷ []) $ k h
      (subst (λ (ws : List Val). vs ≡ vstruct (of_list (ptr_val d.at ∷ (ws ++ []))) ∷ []) ea
      (subst (λ (ps : List Val). vs ≡ vstruct (of_list (ps ++ (vss.1.0 ++ []))) ∷ []) ep ev)) fits))))

  pub place_in : K → (p : Ptr) (h : Val) (a : Z.Denot) (x : Option R.Denot)
      → Step K 𝓛 (‵ (Place.own_val (record { at = p; alloc = a; held = x }) (both (ptr_val p) h ∷ [])) ∷ Γ) G
      (‵ (owned_at a p x) ∷ ‵ (Z.own_val a (h ∷ [])) ∷ Γ) G
  place_in t p h a x = step (λ s. let v : Val = both (ptr_val p) h in
      nothing t $ move t (2 ∷ 0 ∷ []) $ fjoin t $ feq_i t (List Val) (ptr_val p ∷ []) (ptr_val p ∷ []) refl $ fjoin t
      $ feq_i t (List Val) (v ∷ []) (v ∷ []) refl $ fjoin t $
      fpack t (Valss (RawPtr ∷ Z ∷ [])) (within (shape place.the_type) (p, (((tt, tt), tt), tt)) (v ∷ []))
      (ptr_val p ∷ [], (h ∷ [], tt)) $ fjoin t $ s)

module _ {M : Type 1} {𝓤 : Ura M} (𝓛 : Logic 𝓤) where
  -- the pointer of a box may be compared with null
  pub tested : (a : Z.Denot) (p : Ptr) (x : R.Denot)
      → ent 𝓤 (sem 𝓛 (box_owns (ghosts.dealloc_token a) R p x))
      (guard 𝓤 (Testable p) (sem 𝓛 (box_owns (ghosts.dealloc_token a) R p x)))
  tested a p x = let B : SProp 𝓤 = sem 𝓛 (box_owns (ghosts.dealloc_token a) R p x) in
      fact_use 𝓤 (Testable p) (via 𝓤 _ (snd∗ 𝓤 (sem 𝓛 (lies_at R full_share p x))
      (sem 𝓛 (ghosts.dealloc_token a (bare (lone R.mir)) p))) (dealloc_token-Testable 𝓛 a (bare (lone R.mir)) p))
      (guard_i 𝓤 (Testable p) B)

module _ {M : Type 1} {𝓤 : Ura M} {𝓛 : Logic 𝓤} {K : Type 0} {Γ : List (Item 𝓤)} {G : Goal 𝓤 𝓛.H} where
  -- by whether it holds one: a null pointer, or a box at a pointer that may be compared with null
  pub either_held : K → (a : Z.Denot) (p : Ptr) (x : Option R.Denot) → (p ≡ null_ptr → x ≡ None → Seq K 𝓛 Γ G)
      → ((b o : ℕ) (w : R.Denot) → p ≡ block_ptr b o → x ≡ Some w → Testable (block_ptr b o)
      → Seq K 𝓛 (‵ (box_owns (ghosts.dealloc_token a) R (block_ptr b o) w) ∷ Γ) G)
      → Seq K 𝓛 (‵ (owned_at a p x) ∷ Γ) G
  either_held t a p None none one = feq_l t (λ e. none e refl)
  either_held t a p (Some w) none one =
      use1 𝓛 (given (Testable p) (‵ (box_owns (ghosts.dealloc_token a) R p w))) (tested 𝓛 a p w) $ learn t (λ test.
      in_a_block t p (λ q. box_owns (ghosts.dealloc_token a) R q w)
      (fst∗ 𝓤 (never 𝓤) (sem 𝓛 (ghosts.dealloc_token a (bare (lone R.mir)) null_ptr))) (λ b o e.
      one b o w e refl (subst Testable e test)))

-- ---- the owner and the heap as the type arguments of a call, which passes a type without its names

abbrev pub X : RattleType
X = arg (bare (layout R)) no R

pub X_laws : Laws X
X_laws = arg_laws (bare (layout R)) no R owner_laws.the_row_laws refl

abbrev pub Y : RattleType
Y = arg (bare (layout Z)) no Z

pub Y_laws : Laws Y
Y_laws = arg_laws (bare (layout Z)) no Z heap_laws.the_row_laws refl

-- how the heap's handle is dropped, which needs nothing, and how an owner is
abbrev pub heap_drop : Dict
heap_drop = impl (no_drop.symbol ∷ []) (tcons (layout Y) tnil) dnil

abbrev pub owner_drop : Dict
owner_drop = impl (its_drop.symbol ∷ []) tnil dnil

-- the box of an owner, as a call has it
abbrev pub Boxed : box.Bx
Boxed = record {
  row = X;
  laws = X_laws;
  al = record {
    row = Y;
    laws = Y_laws;
    g = ghosts;
    d = dict;
    drops =
        heap_drop;
  };
}

module _ {M : Type 1} (𝓤 : Ura M) (𝓛 : Logic 𝓤) (𝓜 : Model 𝓤 𝓛.H) (𝓡 : Running 𝓤 𝓛.H 𝓜) where
  -- an owner's drop is the glue that a call is handed
  pub owner_glued : Wired 𝓡.env its_drop.code → Met 𝓛 𝓜 𝓡 𝓡.env X owner_drop
  owner_glued wired =
      let k : Callee = method owner_drop 0 no_args in let run = 𝓡.run (𝓡.env k) in
      let framed = run_framed 𝓤 𝓛.H 𝓜 𝓡 (𝓡.env k) in
      let says : Spec 𝓤 dropping.signature = dropping.spec 𝓛 𝓜.mem 𝓡.returns in
      let ends : SProp 𝓤 = sep 𝓤 (sem 𝓛 (fsep ftrue ftrue)) (emp 𝓤) in
      let silent : Spec 𝓤 dropping.signature = λ κs a.
      record {
        ghost = Unit {0};
        requires = λ _. emp 𝓤;
        ensures = λ _ r. ex 𝓤
            (λ (_ : Unit {0} × Unit {0}). ends);
      } in
      spared 𝓛 dropping.signature run framed 1 (X.lives, tt) silent
      (beside 𝓛 dropping.signature run framed says silent (λ κs a g. tt) (λ κs a g. emp 𝓤) (λ κs a g. emp∗ 𝓤 (emp 𝓤))
      (λ κs a g r. qed 𝓛 (raw ((says κs a).ensures tt r) ∷ raw (emp 𝓤) ∷ []) ∵ keep ! [] $ show !
      (λ (_ : Unit {0} × Unit {0}). ends) (tt, tt) $ nothing ! $ nothing ! $ nothing ! $ fjoin ! $ join ! $
      done !)
      (widened 𝓤 𝓛.H (triple_of 𝓛 dropping.signature says) 𝓜 𝓡 𝓡.env (𝓡.env its_drop.name) (𝓡.env k)
      (its_drop.as_method 𝓡.env wired k refl) (drop_met.met 𝓤 𝓛 𝓜 𝓡 wired)))
