-- `unlink_first` takes the first block out, as room for its fields and the right to free it.
-- Assumes `Logic`.
use mathlib.Core.Path.{◌≡◌, refl, sym, ap, subst, ◌∙◌}
use Prim.Native.Nat.{ℕ, ◌+◌}
use mathlib.Core.List.{List, [], ◌∷◌, ◌++◌}
use lib.ListN.{take, drop, replicate}
use seplogic.Ra.Ura.{Ura}
use mir.Syntax.{Fn, named, ty_ptr}
use mir.MapTy.{inst_fn}
use mir.Val.{Val, vptr}
use base.Logic.{SProp, ent, sep, never, id⊢}
use base.Fml.{Lft, GName, Share, ftrue, flft, fobs, fbor}
use prog.Wp.{Env, Calls, Loops, WpFn, Tables}
use types.Logic.{Logic}
use contract.Monad.{fact}
use contract.Running.{tables, tables_of}
use sound.WpLaws.{WpFn-mono}
use types.Kit.{Item, ⋆, ‵, ◌⊛◌, at_ret, ◌$◌, ◌∵◌, !, qed, by, move, keep, use0, use3, split, join, rewrite, fsplit, fsplit3, fjoin, fjoin3, feq_i, feq_l, suffices, frame, done}
use types.Part.{whole, sub, agg}
use types.Run.{load, look, stop, fld, of_opd, and_then, no_more, first, blocks, exec, returns, enter}
use types.ByLocal.{alloc_all, pass_all, free_all, look_at, get, get_in, through, sets, sets_last, is, env}
use types.SemTy.{Body as Borrowed}
use denote.Exit.{yes, no}
use denote.RattleType.{RattleType, owns}
use denote.Memory.{mem}
use denote.Param.{layout}
use denote.RawPtr.{Ptr, ptr_val, in_a_block, room_for}
use denote.Ref.{MutBor, MutRef}
use denote.Builtin.{RefMutOf}
use denote.Signature.{plain}
use denote.Steps.{nothing, opens, closes}
use denote.Struct.Struct.{as_fields}
use denote.Struct.Tuple.{Tuple}
use denote.Triple.Carry.{spared}
use denote.Triple.Clauses.{Clauses, Ended, closing}
use denote.Triple.Entry.{on_entry}
use denote.Triple.Spec.{Meets, triple_of}
use denote.Triple.Table.{entered, run_framed}
use denote.Triple.Walked.{needs, Stays, stay_dropped, stay_ref, walk_of, ends_at, Goes-dropped, Goes-ref, walk_Meets}
use Rattle.std_alloc.proofs.VecSteps.Shapes.{after}
use Rattle.std_alloc.proofs.RcSteps.{Good, Ptr-Good, word, word-Good}
use Rattle.std.specs.Prelude.{None}
use Rattle.core.proofs.mem.Param.{El, R}
use Rattle.core.proofs.alloc.Calls.{Al, token}
use Rattle.core.proofs.slots.Leases.{args}
use Rattle.circular_buffer.proofs.Memory.{Place, Mark, mark, mark_made, word_had, word_made, says_both, three_val, three_of}
use Rattle.nm_limbo.specs.Blocks.{first_block_of, IsFirst}
use Rattle.nm_limbo.specs.Ownership.{chain_owns, next_of, link_owns}
use Rattle.nm_limbo.proofs.Blocks.{Bp, Rm, Dd}
use Rattle.nm_limbo.proofs.Memory.{Ch, Cells, past_first, pointer_out, stale}
use Rattle.nm_limbo.specs.contracts.block.chain.Chain.unlink_first.Key.{name as #self}
use Rattle.nm_limbo.proofs.block.chain.Chain.unlink_first.Statement as stated
use Rattle.nm_limbo.proofs.block.chain.Chain.unlink_first.Code as code

module _ (E : El) (Z : Al) where
  abbrev function : Fn
  function = inst_fn (args E Z) code.function

  abbrev Out : RattleType
  Out = Tuple (Rm E ∷ Dd E Z ∷ Bp E ∷ [])

  abbrev ended : Ended
  ended = record {
    signature = record {
      lifetimes = 1;
      outlives = [];
      params = RefMutOf (0 ∷ []) tt
          (plain (λ _. Ch E Z)) (λ _. tt) ∷ plain (λ _. Bp E) ∷ [];
      result = plain (λ _. Out);
    };
    kept = (yes, (no, tt));
  }

  abbrev stayed : Stays ended.signature.params ended.kept
  stayed = (stay_ref (0 ∷ []) tt (plain (λ _. Ch E Z)), (stay_dropped (plain (λ _. Bp E)) no, tt))

  abbrev Asks : (Ch E Z).Denot → (Bp E).Denot → Type 0
  Asks d front = IsFirst d.blocks front.ptr × (take 32 d.slots ≡ replicate 32 None)

  abbrev Gives0 : (Ch E Z).Denot → (Bp E).Denot → (Out).Denot → (Ch E Z).Denot → Type 0
  Gives0 d front r new = (d.blocks ≡ front.ptr ∷ new.blocks) × (new.slots ≡ drop 32 d.slots) × (new.alloc ≡ d.alloc)

  abbrev Gives1 : (Ch E Z).Denot → (Bp E).Denot → (Out).Denot → (Ch E Z).Denot → Type 0
  Gives1 d front r new = (r.1.at ≡ r.0.ptr) × (r.1.alloc ≡ d.alloc) × (r.2.ptr ≡ first_block_of new.blocks)

  abbrev spec : {M : Type 1} {𝓤 : Ura M} (𝓛 : Logic 𝓤) → Clauses 𝓤 ended
  spec {𝓤 = 𝓤} 𝓛 κs a = record {
    ghost = Unit {0};
    requires = λ _. fact 𝓤 (Asks a.0.now a.1.0);
    ensures = λ _ r w.
        sep 𝓤 (fact 𝓤 (Gives0 a.0.now a.1.0 r w.0.now)) (fact 𝓤 (Gives1 a.0.now a.1.0 r w.0.now));
  }

module _ (E : El) (Z : Al) {M : Type 1} {𝓤 : Ura M} (𝓛 : Logic 𝓤) (C : Calls 𝓤 𝓛.H) (Λ : Loops 𝓤 𝓛.H) (κ : Lft)
    (q : Share) (rb ro : ℕ) (γ : GName) (d : (Ch E Z).Denot) (front : (Bp E).Denot) (us0 us1 : List Val) where
  open 𝓛 use {H, A}

  abbrev self : MutBor (Ch E Z).Denot
  self = record { ref_ptr = (rb, ro); ghost_name = γ; now = d }

  abbrev bound : (walk_of 𝓛 (ended E Z) (stayed E Z) (spec E Z 𝓛)).Ghost
  bound = (((κ, tt), (q, tt), tt, (self, (front, tt)), (us0, (us1, tt))), tt)

  abbrev Post : Val → SProp 𝓤
  Post = (walk_of 𝓛 (ended E Z) (stayed E Z) (spec E Z 𝓛)).post bound

  exits : us0 ≡ vptr rb ro ∷ [] → (r : (Out E Z).Denot) (v : Val) (new : (Ch E Z).Denot) → Gives0 E Z d front r new
      → Gives1 E Z d front r new → ent 𝓤 (⋆ 𝓛 (‵ (fobs γ ((Ch E Z).coded.code new))
      ∷ ‵ (fbor κ (Borrowed (mem (Ch E Z)) rb ro γ)) ∷ ‵ (flft κ q) ∷ ‵ ((Out E Z).own_val r (v ∷ [])) ∷ [])) (Post v)
  exits passed r v new g0 g1 =
      qed 𝓛 (‵ (fobs γ ((Ch E Z).coded.code new)) ∷ ‵ (fbor κ (Borrowed (mem (Ch E Z)) rb ro γ)) ∷ ‵ (flft κ q)
      ∷ ‵ ((Out E Z).own_val r (v ∷ [])) ∷ []) ∵
      suffices ! _ (ends_at 𝓛 (ended E Z) (stayed E Z) (spec E Z 𝓛) bound v r (new, (tt, tt)) (tt, (tt, tt))) $
      says_both ! g0 g1 $
      nothing ! $ move ! (3 ∷ 0 ∷ []) $ join ! $ frame ! $ feq_i ! (List Val) us0 (vptr rb ro ∷ []) passed $ fjoin3 !
      $ nothing ! $ nothing ! $ fjoin ! $ move ! (1 ∷ 0 ∷ []) $ fjoin ! $ done !

  abbrev Had : List (Item 𝓤)
  Had = ‵ (fobs γ ((Ch E Z).coded.code d)) ∷ ‵ (fbor κ (Borrowed (mem (Ch E Z)) rb ro γ)) ∷ ‵ (flft κ q) ∷ []

  walk : us0 ≡ vptr rb ro ∷ [] → Asks E Z d front → ent 𝓤 (⋆ 𝓛 Had)
      (WpFn 𝓤 H C Λ (function E Z) (vptr rb ro ∷ word front.ptr ∷ []) Post)
  walk passed asked =
      let p : Ptr = front.ptr in let more = past_first d.blocks asked.0.0 in let ps : List Ptr = more.0 in
      let on : Ptr = first_block_of ps in
      let cut : d.blocks ≡ p ∷ ps = more.1 ∙ ap (λ a. a ∷ ps) (sym asked.0.1) in
      let none : List (Place E) = replicate 32 None in
      let new : (Ch E Z).Denot = record { mark = d.mark; blocks = ps; slots = drop 32 d.slots; alloc = d.alloc } in
      let room : (Rm E).Denot = record { ptr = p } in
      let deed : (Dd E Z).Denot = record { mark = record {}; at = p; alloc = d.alloc } in
      let next : (Bp E).Denot = record { ptr = on } in
      let made : Val = three_val (word p) mark (word on) in
      let typed : Good (layout (Out E Z)) made = as_fields (layout (Rm E) ∷ layout (Dd E Z) ∷ layout (Bp E) ∷ [])
      (word p ∷ mark ∷ word on ∷ []) (word-Good [] p, ((tt, (tt, tt)), (word-Good [] on, tt))) in
      qed 𝓛 Had ∵ enter ! C Λ (function E Z) (vptr rb ro ∷ word front.ptr ∷ []) _ $ alloc_all !
      (λ l. pass_all ! refl ((tt, tt), (word-Good [] front.ptr, tt)) $
      let En : Env 𝓤 H = env (function E Z).locals l in
      opens ! tt (Ch E Z) {h = d} rb ro (λ vs. move ! (1 ∷ []) $ fsplit ! $ move ! (1 ∷ []) $
      rewrite ! 0 (λ (qs : List Ptr). ‵ (chain_owns (R E) (token Z d.alloc) qs d.slots)) cut refl $ fsplit3 ! $ move
      ! (1 ∷ []) $ fsplit ! $
      in_a_block ! p (λ a. link_owns a on) (id⊢ 𝓤 (never 𝓤)) (λ b o e. pointer_out ! on b (o + 0) $
      -- [the link's cell; the other links; the places; the deeds; the mark; its cell; the open
      -- borrow; obs; auth]
      sets ! (is ! (of_opd ! (get_in ! (fld ! refl (stop !)) (sub ! 0 refl (whole !)))) (ap ptr_val e)) refl (tt, tt)
      $ first ! $ blocks ! $
      sets_last ! (of_opd ! (load ! (through ! refl (fld ! refl (stop !))) (look ! 0 refl))) refl (Ptr-Good on) $
      exec ! C Λ En (after 2 (function E Z).body) (at_ret En Post) $ sets ! (of_opd ! (get ! refl)) refl (Ptr-Good on) $
      sets ! (is ! (agg ! (and_then ! (get ! refl) (no_more !))) (ap word (sym e))) refl (word-Good [] p) $ sets !
      (agg ! (no_more !)) refl (tt, tt) $
      sets ! (agg ! (and_then ! (get ! refl) (no_more !))) refl (tt, (tt, tt)) $ sets !
      (agg ! (and_then ! (get ! refl) (no_more !))) refl (word-Good [] on) $
      sets ! (agg ! (and_then ! (get ! refl) (and_then ! (get ! refl) (and_then ! (get ! refl) (no_more !))))) refl
      typed $
      stale ! on b (o + 0) $ rewrite ! 0 (λ (a : Ptr). ‵ (room_for ty_ptr (next_of a))) (sym e) refl $
      move ! (2 ∷ []) $ fsplit ! $ rewrite ! 0 (λ (cs : List (Place E)). ‵ (Cells E p cs)) asked.1 refl $
      -- [the block's places; the others'; the room of its link; the other links; the deeds; the
      -- mark; ..]
      move ! (4 ∷ []) $ fsplit ! $
      -- [its deed; the other deeds; its places; the others'; the room of its link; the other links;
      -- the mark; ..]
      move ! (3 ∷ 5 ∷ 1 ∷ []) $ fjoin3 ! $
      -- [the other blocks; its deed; its places; the room of its link; the mark; ..]
      move ! (4 ∷ 0 ∷ []) $ fjoin ! $ move ! (4 ∷ 0 ∷ 5 ∷ 6 ∷ 7 ∷ []) $ closes ! tt (Ch E Z) new vs rb ro $
      returns ! (look_at ! 0 refl) $ free_all ! refl $ keep ! (0 ∷ 1 ∷ 2 ∷ 3 ∷ 4 ∷ 5 ∷ []) $
      word_made ! on $ move ! (4 ∷ []) $ use0 𝓛 (‵ ((Mark E).own_val (tt, tt) (mark ∷ []))) (mark_made E 𝓛) $ fjoin ! $
      move ! (6 ∷ 5 ∷ []) $ fjoin ! $ word_made ! p $ fjoin ! $ move ! (0 ∷ 1 ∷ 2 ∷ []) $
      use3 𝓛 (‵ ((Out E Z).own_val (room, deed, next) (made ∷ [])))
      (three_of 𝓛 (Rm E) (Dd E Z) (Bp E) room deed next (word p) mark (word on)) $ move ! (1 ∷ 2 ∷ 3 ∷ 0 ∷ []) $
      by ! (exits passed (room, deed, next) made new (cut, refl, refl) (refl, refl, refl)))))

  entry : Asks E Z d front → ent 𝓤 (on_entry 𝓛 (ended E Z).signature (κ, tt) (q, tt) (self, (front, tt))
      (us0, (us1, tt))) (WpFn 𝓤 H C Λ (function E Z) (us0 ++ (us1 ++ ([]))) Post)
  entry asked =
      qed 𝓛 ((‵ (flft κ q) ⊛ ‵ ftrue) ∷ ‵ (owns (MutRef (named 0) κ (Ch E Z) ∷ Bp E ∷ []) (self, (front, tt))
      (us0, (us1, tt))) ∷ []) ∵
      split ! $ move ! (2 ∷ []) $
      fsplit ! $
      fsplit3 ! $ feq_l ! (λ e0.
      move ! (2 ∷ []) $
      fsplit ! $
      word_had ! front.ptr us1 (λ e1.
      keep ! (1 ∷ 2 ∷ 3 ∷ []) $
      by ! (subst (λ (ws : List Val × List Val). ent 𝓤 (⋆ 𝓛 Had)
      (WpFn 𝓤 H C Λ (function E Z) (ws.0 ++ (ws.1 ++ ([]))) Post)) (λ j. (sym e0 j, sym e1 j)) (walk e0 asked))))

meets : (E : El) (Z : Al) {M : Type 1} {𝓤 : Ura M} (𝓛 : Logic 𝓤) (𝓣 : Tables 𝓤 𝓛.H)
    → Meets 𝓛 (ended E Z).signature (WpFn 𝓤 𝓛.H 𝓣.C 𝓣.Λ (function E Z)) (closing 𝓛 (ended E Z) (spec E Z 𝓛))
meets E Z {𝓤 = 𝓤} 𝓛 𝓣 =
    walk_Meets 𝓛 (ended E Z) (stayed E Z) (
      Goes-ref 𝓛 1 0 tt (plain (λ _. Ch E Z)),
      (Goes-dropped 𝓛 1 (plain (λ _. Bp E)) no (λ κs x f. refl), tt),
    ) (spec E Z 𝓛)
    (WpFn 𝓤 𝓛.H 𝓣.C 𝓣.Λ (function E Z)) (WpFn-mono 𝓤 𝓛.H 𝓛.laws 𝓣 (function E Z))
    (λ z. needs 𝓤 (Asks E Z z.0.3.0.now z.0.3.1.0) _
    (entry E Z 𝓛 𝓣.C 𝓣.Λ z.0.0.0 z.0.1.0 z.0.3.0.ref_ptr.0 z.0.3.0.ref_ptr.1 z.0.3.0.ghost_name z.0.3.0.now
    z.0.3.1.0 z.0.4.0 z.0.4.1.0))

pub unlink_first_spec : {M : Type 1} → stated.statement M
unfolding tables_of
unlink_first_spec 𝓤 𝓛 𝓜 𝓡 wired X W LX LW g d dd met md y =
    let E : El = record { row = X; laws = LX } in
    let Z : Al = record { row = W; laws = LW; g = g; d = d; drops = dd } in
    let 𝓣 : Tables 𝓤 𝓛.H = tables_of 𝓤 𝓛.H 𝓜 (tables 𝓤 𝓛.H 𝓜 𝓡 𝓡.env) in
    let k = #self (args E Z) in
    spared 𝓛 (ended E Z).signature (𝓡.run (𝓡.env k)) (run_framed 𝓤 𝓛.H 𝓜 𝓡 (𝓡.env k)) 2 (X.lives, (W.lives, tt))
    (closing 𝓛 (ended E Z) (spec E Z 𝓛))
    (entered 𝓤 𝓛.H (triple_of 𝓛 (ended E Z).signature (closing 𝓛 (ended E Z) (spec E Z 𝓛))) 𝓣.C 𝓣.Λ k (function E Z)
    (code.unfolded 𝓤 𝓛.H 𝓜 𝓡 wired (X, (W, tt)) d dd) (meets E Z 𝓛 𝓣))
    ((y.0.0, y.0.1, tt, y.0.3, y.0.4), y.1)
