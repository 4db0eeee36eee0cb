-- `read` empties a full place of the first block. Assumes `Logic`.
use mathlib.Core.Path.{◌≡◌, refl, sym, subst, ◌∙◌}
use Prim.Native.Nat.{ℕ, ◌+◌, ◌*◌, ◌<◌, ◌≤◌, ◌^◌}
use native.Mathlib.Omega.{arith}
use mathlib.Core.List.{List, [], ◌∷◌, ◌++◌}
use lib.ListN.{length, set, get_or, take, drop, length-set, length-take, length-drop}
use lib.Seq.{get_or-take}
use seplogic.Ra.Ura.{Ura}
use base.Fraction.{full_share}
use mir.Syntax.{Fn, named, w64}
use mir.MapTy.{inst_fn}
use mir.Val.{Val, vptr, vint}
use base.Logic.{SProp, ent, sep, never, id⊢}
use base.Fml.{Lft, GName, Share, ftrue, fat, froom, flft, fobs, fbor}
use prog.Wp.{Env, Calls, Loops, WpFn, Tables}
use types.Logic.{Logic}
use contract.Monad.{fact}
use contract.Running.{tables, tables_of}
use sound.WpLaws.{WpFn-mono}
use types.Kit.{Item, ⋆, ‵, some, given, ◌⊛◌, at_ret, ◌$◌, ◌∵◌, !, qed, by, move, keep, use1, use2, pick, learn, split, join, rewrite, fsplit, fsplit3, fjoin, fjoin3, feq_i, feq_l, flt_i, flt_l, suffices, frame, done}
use types.Part.{whole, sub}
use types.Run.{from, load, look, stop, fld, hop, size_lit, of_opd, addr, bin, first, blocks, exec, returns, enter}
use types.ByLocal.{alloc_all, pass_all, free_all, look_at, look_in_at, get, through, take_at, give_at, sets, sets_last, env}
use types.SemTy.{Body as Borrowed}
use denote.Exit.{yes, no}
use denote.RattleType.{RattleType, owns}
use denote.Memory.{mem}
use denote.Param.{layout}
use denote.RawPtr.{Ptr, in_a_block}
use denote.Ref.{MutBor, MutRef}
use denote.Builtin.{RefMutOf, usize}
use denote.Signature.{plain}
use denote.Steps.{nothing, opens, closes}
use denote.Triple.Carry.{spared}
use denote.Triple.Clauses.{Clauses, Ended, closing}
use denote.Triple.Entry.{on_entry}
use denote.Triple.Spec.{Meets, triple_of}
use denote.Triple.Table.{entered, run_framed}
use denote.Triple.Walked.{needs, Stays, stay_dropped, stay_ref, walk_of, ends_at, Goes-dropped, Goes-ref, walk_Meets}
use Rattle.std_alloc.proofs.VecSteps.Shapes.{after}
use Rattle.std_alloc.proofs.RcSteps.{Good, word, word-Good}
use Rattle.std_alloc.proofs.RawLayout.{as_raw}
use Rattle.std.specs.Prelude.{Some, None}
use Rattle.core.proofs.mem.Param.{El, R, elτ}
use Rattle.core.proofs.ptr.Rows.{times_below, one_below}
use Rattle.core.proofs.alloc.Calls.{Al}
use Rattle.core.proofs.slots.Leases.{args}
use Rattle.circular_buffer.specs.Places.{IsFilled}
use Rattle.circular_buffer.specs.Ownership.{slot, slots}
use Rattle.circular_buffer.proofs.Memory.{sz, Place, word_had, says_both, value_out, filled_within, Besides, slot_out, slot_in}
use Rattle.nm_limbo.specs.Blocks.{IsFirst}
use Rattle.nm_limbo.specs.Ownership.{places_offset}
use Rattle.nm_limbo.proofs.Blocks.{Bp}
use Rattle.nm_limbo.proofs.Memory.{Ch, Cells, Own, nth, first_nth, Others, block_out, block_in}
use Rattle.nm_limbo.specs.contracts.block.chain.Chain.read.Key.{name as #self}
use Rattle.nm_limbo.proofs.block.chain.Chain.read.Statement as stated
use Rattle.nm_limbo.proofs.block.chain.Chain.read.Code as code

module _ (E : El) (Z : Al) where
  abbrev function : Fn
  function = inst_fn (args E Z) code.function

  abbrev Out : RattleType
  Out = R E

  abbrev ended : Ended
  ended = record {
    signature = record {
      lifetimes = 1;
      outlives = [];
      params = RefMutOf (0 ∷ []) tt
          (plain (λ _. Ch E Z)) (λ _. tt) ∷ plain (λ _. Bp E) ∷ plain (λ _. usize) ∷ [];
      result = plain (λ _. Out);
    };
    kept = (yes, (no, (no, tt)));
  }

  abbrev stayed : Stays ended.signature.params ended.kept
  stayed = (
    stay_ref (0 ∷ []) tt (plain (λ _. Ch E Z)),
    (stay_dropped (plain (λ _. Bp E)) no, (stay_dropped (plain (λ _. usize)) no, tt)),
  )

  abbrev Asks : (Ch E Z).Denot → (Bp E).Denot → (usize).Denot → Type 0
  Asks d front index = IsFirst d.blocks front.ptr × (index < 32) × IsFilled d.slots index

  abbrev Gives0 : (Ch E Z).Denot → (Bp E).Denot → (usize).Denot → (Out).Denot → (Ch E Z).Denot → Type 0
  Gives0 d front index r new = get_or d.slots index None ≡ Some r

  abbrev Gives1 : (Ch E Z).Denot → (Bp E).Denot → (usize).Denot → (Out).Denot → (Ch E Z).Denot → Type 0
  Gives1 d front index r new = (new.blocks ≡ d.blocks) × (new.slots ≡ set d.slots index None) × (new.alloc ≡ d.alloc)

  abbrev spec : {M : Type 1} {𝓤 : Ura M} (𝓛 : Logic 𝓤) → Clauses 𝓤 ended
  spec {𝓤 = 𝓤} 𝓛 κs a = record {
    ghost = Unit {0};
    requires = λ _. fact 𝓤 (Asks a.0.now a.1.0 a.1.1.0);
    ensures = λ _
        r w. sep 𝓤 (fact 𝓤 (Gives0 a.0.now a.1.0 a.1.1.0 r w.0.now)) (fact 𝓤 (Gives1 a.0.now a.1.0 a.1.1.0 r w.0.now));
  }

module _ (E : El) (Z : Al) {M : Type 1} {𝓤 : Ura M} (𝓛 : Logic 𝓤) (C : Calls 𝓤 𝓛.H) (Λ : Loops 𝓤 𝓛.H) (κ : Lft)
    (q : Share) (rb ro : ℕ) (γ : GName) (d : (Ch E Z).Denot) (front : (Bp E).Denot) (index : (usize).Denot)
    (us0 us1 us2 : List Val) where
  open 𝓛 use {H, A}

  abbrev self : MutBor (Ch E Z).Denot
  self = record { ref_ptr = (rb, ro); ghost_name = γ; now = d }

  abbrev bound : (walk_of 𝓛 (ended E Z) (stayed E Z) (spec E Z 𝓛)).Ghost
  bound = (((κ, tt), (q, tt), tt, (self, (front, (index, tt))), (us0, (us1, (us2, tt)))), tt)

  abbrev Post : Val → SProp 𝓤
  Post = (walk_of 𝓛 (ended E Z) (stayed E Z) (spec E Z 𝓛)).post bound

  exits : us0 ≡ vptr rb ro ∷ [] → (r : (Out E Z).Denot) (v : Val) (new : (Ch E Z).Denot)
      → Gives0 E Z d front index r new → Gives1 E Z d front index r new
      → ent 𝓤 (⋆ 𝓛 (‵ (fobs γ ((Ch E Z).coded.code new)) ∷ ‵ (fbor κ (Borrowed (mem (Ch E Z)) rb ro γ)) ∷ ‵ (flft κ q)
      ∷ ‵ ((Out E Z).own_val r (v ∷ [])) ∷ [])) (Post v)
  exits passed r v new g0 g1 =
      qed 𝓛 (‵ (fobs γ ((Ch E Z).coded.code new)) ∷ ‵ (fbor κ (Borrowed (mem (Ch E Z)) rb ro γ)) ∷ ‵ (flft κ q)
      ∷ ‵ ((Out E Z).own_val r (v ∷ [])) ∷ []) ∵
      suffices ! _ (ends_at 𝓛 (ended E Z) (stayed E Z) (spec E Z 𝓛) bound v r (new, (tt, (tt, tt)))
      (tt, (tt, (tt, tt)))) $ says_both ! g0 g1 $
      nothing ! $ move ! (3 ∷ 0 ∷ []) $ join ! $ frame ! $ feq_i ! (List Val) us0 (vptr rb ro ∷ []) passed $ fjoin3 !
      $ nothing ! $ nothing ! $ fjoin ! $ nothing ! $ fjoin ! $ move ! (1 ∷ 0 ∷ []) $ fjoin ! $ done !

  abbrev Had : List (Item 𝓤)
  Had = ‵ (fobs γ ((Ch E Z).coded.code d)) ∷ ‵ (fbor κ (Borrowed (mem (Ch E Z)) rb ro γ)) ∷ ‵ (flft κ q) ∷ []

  walk : us0 ≡ vptr rb ro ∷ [] → Asks E Z d front index → index < 2 ^ 64
      → ent 𝓤 (⋆ 𝓛 Had) (WpFn 𝓤 H C Λ (function E Z) (vptr rb ro ∷ word front.ptr ∷ vint w64 index ∷ []) Post)
  walk passed asked fits_index =
      let p : Ptr = nth d.blocks 0 in let x = asked.2.0 in let there : 0 < length d.blocks = asked.0.0 in
      let cs : List (Place E) = take 32 (drop 0 d.slots) in
      let inside : index < length d.slots = filled_within d.slots index x asked.2.1 in
      let within : index < length cs = omega (
        arith,
        length-take 32 (drop 0 d.slots),
        length-drop 0 d.slots,
        asked.1,
        inside,
      ) in
      let few : length cs ≤ 32 = omega (arith, length-take 32 (drop 0 d.slots)) in
      let full : get_or cs index None ≡ Some x = get_or-take 32 (drop 0 d.slots) index None asked.1 ∙ asked.2.1 in
      let left : List (Place E) = set cs index None in
      let same : 0 + index ≡ index = omega arith in
      let new : (Ch E Z).Denot = record {
        mark = d.mark;
        blocks = d.blocks;
        slots = set d.slots index None;
        alloc =
            d.alloc;
      } in
      qed 𝓛 Had ∵ enter ! C Λ (function E Z) (vptr rb ro ∷ word front.ptr ∷ vint w64 index ∷ []) _ $ alloc_all !
      (λ l. pass_all ! refl ((tt, tt), (word-Good [] front.ptr, ((tt, record { fits = fits_index }), tt))) $
      let En : Env 𝓤 H = env (function E Z).locals l in
      opens ! tt (Ch E Z) {h = d} rb ro (λ vs. move ! (1 ∷ []) $ fsplit ! $ move ! (1 ∷ []) $ fsplit ! $
      use1 𝓛 (‵ (Cells E p cs) ⊛ ‵ (Others E 0 d.blocks d.slots)) (block_out E 𝓛 0 d.blocks d.slots 0 there refl) $
      split ! $
      in_a_block ! p (λ a. Cells E a cs) (id⊢ 𝓤 (never 𝓤)) (λ b o e. fsplit ! $ flt_l ! (λ small.
      let s = sz E in let tiny : s < 2 ^ 64 = omega (arith, one_below (length cs) s (2 ^ 63) (omega arith) small) in
      let far : index * s < 2 ^ 64 = omega (arith, times_below index (length cs) s (2 ^ 63) (omega arith) small) in
      let base : ℕ = o + places_offset (R E) in
      take_at ! 2 $ rewrite ! 0 (λ (a : Ptr). ‵ (fat full_share (layout (Bp E)) (l 2) 0 (word a)))
      (asked.0.1 ∙ first_nth d.blocks ∙ e) refl $ give_at ! 2 $ first ! $ blocks ! $
      sets ! (addr ! (from ! (fld ! refl (hop ! (look_in_at ! 2 (sub ! 0 refl (whole !))) (fld ! refl (stop !))))))
      refl (tt, tt) $
      sets ! (bin ! (get ! refl) (size_lit ! (record { fits = tiny })) (record { fits = far })) refl
      (tt, record { fits = far }) $
      sets ! (bin ! (get ! refl) (get ! refl) tt) refl (tt, tt) $
      use1 𝓛 (‵ (slot (R E) b (index * s + base) (get_or cs index None)) ⊛ ‵ (Besides E 𝓛 b base cs index))
      (slot_out E 𝓛 b base cs index within) $ split ! $
      rewrite ! 0 (λ (c : Place E). ‵ (slot (R E) b (index * s + base) c)) full refl $
      use1 𝓛 (some (λ (v : Val). given (Good (elτ E) v)
      (‵ (fat full_share (elτ E) b (index * s + base) v) ⊛ ‵ (E.row.own_val x (v ∷ [])))))
      (value_out 0 E.row E.laws 𝓛 x b (index * s + base)) $
      pick ! (λ v. learn ! (λ good. split ! $ sets_last !
      (of_opd ! (load ! (through ! refl (stop !)) (look ! 0 refl))) refl good $
      exec ! C Λ En (after 1 (function E Z).body) (at_ret En Post) $ sets ! (of_opd ! (get ! refl)) refl good $
      use1 𝓛 (‵ (froom (elτ E) b (index * s + base))) (𝓛.laws.at_room (elτ E) b (index * s + base) v) $ as_raw !
      (elτ E) b (index * s + base) $
      -- [the room; what the item owns; the block's other places; the other blocks'; the links and
      -- deeds; the mark; its cell; the open borrow; obs; auth]
      move ! (0 ∷ 2 ∷ 3 ∷ 4 ∷ 5 ∷ 6 ∷ 7 ∷ 8 ∷ 9 ∷ []) $
      use2 𝓛 (‵ (slots (R E) b base left)) (slot_in E 𝓛 b base cs index within None) $
      flt_i ! (length left * s) (2 ^ 63) (subst (λ k. k * s < 2 ^ 63) (sym (length-set cs index None)) small) $ fjoin
      ! $
      rewrite ! 0 (λ (a : Ptr). ‵ (Cells E a left)) (sym e) refl $
      use2 𝓛 (‵ (Own E 𝓛 d.blocks (set d.slots (0 + index) None)))
      (block_in E 𝓛 0 d.blocks d.slots 0 index None there refl asked.1) $
      rewrite ! 0 (λ (n : ℕ). ‵ (Own E 𝓛 d.blocks (set d.slots n None))) same refl $
      fjoin ! $ move ! (1 ∷ 0 ∷ []) $ fjoin ! $ move ! (1 ∷ 0 ∷ []) $ closes ! tt (Ch E Z) new vs rb ro $
      returns ! (look_at ! 0 refl) $ free_all ! refl $ keep ! (0 ∷ 1 ∷ 2 ∷ 3 ∷ []) $ by !
      (exits passed x v new asked.2.1 (refl, refl, refl))))))))

  entry : Asks E Z d front index → ent 𝓤 (on_entry 𝓛 (ended E Z).signature (κ, tt) (q, tt)
      (self, (front, (index, tt))) (us0, (us1, (us2, tt))))
      (WpFn 𝓤 H C Λ (function E Z) (us0 ++ (us1 ++ (us2 ++ ([])))) Post)
  entry asked =
      qed 𝓛 ((‵ (flft κ q) ⊛ ‵ ftrue) ∷ ‵ (owns (MutRef (named 0) κ (Ch E Z) ∷ Bp E ∷ usize ∷ [])
      (self, (front, (index, tt))) (us0, (us1, (us2, tt)))) ∷ []) ∵
      split ! $ move ! (2 ∷ []) $
      fsplit ! $
      fsplit3 ! $ feq_l ! (λ e0.
      move ! (2 ∷ []) $
      fsplit ! $
      word_had ! front.ptr us1 (λ e1.
      fsplit ! $
      fsplit ! $ feq_l ! (λ e2. flt_l ! (λ fits_index.
      keep ! (1 ∷ 2 ∷ 3 ∷ []) $
      by ! (subst (λ (ws : List Val × List Val × List Val). ent 𝓤 (⋆ 𝓛 Had)
      (WpFn 𝓤 H C Λ (function E Z) (ws.0 ++ (ws.1 ++ (ws.2 ++ ([])))) Post)) (λ j. (sym e0 j, sym e1 j, sym e2 j))
      (walk e0 asked fits_index))))))

meets : (E : El) (Z : Al) {M : Type 1} {𝓤 : Ura M} (𝓛 : Logic 𝓤) (𝓣 : Tables 𝓤 𝓛.H)
    → Meets 𝓛 (ended E Z).signature (WpFn 𝓤 𝓛.H 𝓣.C 𝓣.Λ (function E Z)) (closing 𝓛 (ended E Z) (spec E Z 𝓛))
meets E Z {𝓤 = 𝓤} 𝓛 𝓣 =
    walk_Meets 𝓛 (ended E Z) (stayed E Z) (
      Goes-ref 𝓛 1 0 tt (plain (λ _. Ch E Z)),
      (
        Goes-dropped 𝓛 1 (plain (λ _. Bp E)) no (λ κs x f. refl),
        (Goes-dropped 𝓛 1 (plain (λ _. usize)) no (λ κs x f. refl), tt),
      ),
    ) (spec E Z 𝓛)
    (WpFn 𝓤 𝓛.H 𝓣.C 𝓣.Λ (function E Z)) (WpFn-mono 𝓤 𝓛.H 𝓛.laws 𝓣 (function E Z))
    (λ z. needs 𝓤 (Asks E Z z.0.3.0.now z.0.3.1.0 z.0.3.1.1.0) _
    (entry E Z 𝓛 𝓣.C 𝓣.Λ z.0.0.0 z.0.1.0 z.0.3.0.ref_ptr.0 z.0.3.0.ref_ptr.1 z.0.3.0.ghost_name z.0.3.0.now
    z.0.3.1.0 z.0.3.1.1.0 z.0.4.0 z.0.4.1.0 z.0.4.1.1.0))

pub read_spec : {M : Type 1} → stated.statement M
unfolding tables_of
read_spec 𝓤 𝓛 𝓜 𝓡 wired X W LX LW g d dd met md y =
    let E : El = record { row = X; laws = LX } in
    let Z : Al = record { row = W; laws = LW; g = g; d = d; drops = dd } in
    let 𝓣 : Tables 𝓤 𝓛.H = tables_of 𝓤 𝓛.H 𝓜 (tables 𝓤 𝓛.H 𝓜 𝓡 𝓡.env) in
    let k = #self (args E Z) in
    spared 𝓛 (ended E Z).signature (𝓡.run (𝓡.env k)) (run_framed 𝓤 𝓛.H 𝓜 𝓡 (𝓡.env k)) 2 (X.lives, (W.lives, tt))
    (closing 𝓛 (ended E Z) (spec E Z 𝓛))
    (entered 𝓤 𝓛.H (triple_of 𝓛 (ended E Z).signature (closing 𝓛 (ended E Z) (spec E Z 𝓛))) 𝓣.C 𝓣.Λ k (function E Z)
    (code.unfolded 𝓤 𝓛.H 𝓜 𝓡 wired (X, (W, tt)) d dd) (meets E Z 𝓛 𝓣))
    ((y.0.0, y.0.1, tt, y.0.3, y.0.4), y.1)
