-- `link_last` has the last block lead on to the new one, which leads on to none. Assumes `Logic`.
use mathlib.Core.Path.{◌≡◌, refl, sym, ap, subst, ◌∙◌}
use Prim.Native.Nat.{ℕ, ◌+◌, ◌-◌, ◌*◌}
use native.Mathlib.Omega.{arith}
use mathlib.Core.List.{List, [], ◌∷◌, ◌++◌}
use lib.ListN.{length, replicate}
use seplogic.Ra.Ura.{Ura}
use mir.Syntax.{Fn, named}
use mir.MapTy.{inst_fn}
use mir.Val.{Val, vptr}
use base.Logic.{SProp, ent, never, fst∗, id⊢}
use base.Fml.{Lft, GName, Share, ftrue, flft, fobs, fbor}
use prog.Wp.{Env, Calls, Loops, WpFn, Tables}
use types.Logic.{Logic}
use contract.Monad.{fact}
use contract.Running.{tables, tables_of}
use sound.WpLaws.{WpFn-mono}
use types.Kit.{Item, ⋆, ‵, ◌⊛◌, at_ret, ◌$◌, ◌∵◌, !, qed, by, move, keep, use1, use2, use3, split, join, rewrite, fsplit, fsplit3, fjoin, fjoin3, feq_i, feq_l, suffices, frame, done}
use types.Part.{whole, sub, agg}
use types.Run.{init, store, stop, fld, lit, of_opd, and_then, no_more, assigns, assigns_last, first, blocks, exec, returns, enter}
use types.ByLocal.{alloc_all, pass_all, free_all, look_at, get, get_in, through, sets, is, env}
use types.SemTy.{Body as Borrowed}
use denote.Exit.{yes, no}
use denote.RattleType.{RattleType, owns}
use denote.Memory.{mem}
use denote.RawPtr.{Ptr, null_ptr, block_ptr, ptr_val, in_a_block}
use denote.Ref.{MutBor, MutRef}
use denote.Builtin.{RefMutOf}
use denote.Signature.{plain}
use denote.Steps.{nothing, opens, closes}
use denote.Triple.Carry.{spared}
use denote.Triple.Clauses.{Clauses, Ended, closing}
use denote.Triple.Entry.{on_entry}
use denote.Triple.Spec.{Meets, triple_of}
use denote.Triple.Table.{entered, run_framed}
use denote.Triple.Walked.{says, needs, Stays, stay_dropped, stay_ref, walk_of, ends_at, Goes-dropped, Goes-ref, walk_Meets}
use Rattle.std_alloc.proofs.VecSteps.Shapes.{after}
use Rattle.std_alloc.proofs.RcSteps.{Ptr-Good, word, word-Good}
use Rattle.std.specs.Prelude.{None}
use Rattle.core.proofs.mem.Param.{El, R}
use Rattle.core.proofs.alloc.Calls.{Al, token, Goes-blank}
use Rattle.core.proofs.slots.Leases.{args}
use Rattle.circular_buffer.proofs.Memory.{Place, mark, mark_had, word_had, word_made}
use Rattle.nm_limbo.specs.Blocks.{IsLast}
use Rattle.nm_limbo.specs.Ownership.{link_owns, links_own, room_owns, deed_owns, deeds_own}
use Rattle.nm_limbo.proofs.Blocks.{Bp, Rm, Dd}
use Rattle.nm_limbo.proofs.Memory.{Ch, Cells, Own, nth, places_grow, deeds_grow, Upto, last_out, last_in, pointer_out, pointer_in}
use Rattle.nm_limbo.specs.contracts.block.chain.Chain.link_last.Key.{name as #self}
use Rattle.nm_limbo.proofs.block.chain.Chain.link_last.Statement as stated
use Rattle.nm_limbo.proofs.block.chain.Chain.link_last.Code as code

module _ (E : El) (Z : Al) where
  abbrev function : Fn
  function = inst_fn (args E Z) code.function

  abbrev Out : RattleType
  Out = Bp E

  abbrev ended : Ended
  ended = record {
    signature = record {
      lifetimes = 1;
      outlives = [];
      params = RefMutOf (0 ∷ []) tt
          (plain (λ _. Ch E Z)) (λ _. tt) ∷ plain (λ _. Bp E) ∷ plain (λ _. Rm E) ∷ plain (λ _. Dd E Z)
          ∷ [];
      result = plain (λ _. Out);
    };
    kept = (yes, (no, (no, (no, tt))));
  }

  abbrev stayed : Stays ended.signature.params ended.kept
  stayed = (
    stay_ref (0 ∷ []) tt (plain (λ _. Ch E Z)),
    (
      stay_dropped (plain (λ _. Bp E)) no,
      (
        stay_dropped (plain (λ _. Rm E)) no,
        (stay_dropped (plain (λ _. Dd E Z)) no, tt),
      ),
    ),
  )

  abbrev Asks : (Ch E Z).Denot → (Bp E).Denot → (Rm E).Denot → (Dd E Z).Denot → Type 0
  Asks d last room deed = IsLast d.blocks last.ptr × (length d.slots ≡ 32 * length d.blocks) × (deed.at ≡ room.ptr)
      × (deed.alloc ≡ d.alloc)

  abbrev Gives0 : (Ch E Z).Denot → (Bp E).Denot → (Rm E).Denot → (Dd E Z).Denot → (Out).Denot → (Ch E Z).Denot → Type 0
  Gives0 d last room deed r new = (r.ptr ≡ room.ptr) × (new.blocks ≡ d.blocks ++ room.ptr ∷ [])
      × (new.slots ≡ d.slots ++ replicate 32 None) × (new.alloc ≡ d.alloc)

  abbrev spec : {M : Type 1} {𝓤 : Ura M} (𝓛 : Logic 𝓤) → Clauses 𝓤 ended
  spec {𝓤 = 𝓤} 𝓛 κs a = record {
    ghost = Unit {0};
    requires = λ _. fact 𝓤 (Asks a.0.now a.1.0 a.1.1.0 a.1.1.1.0);
    ensures = λ _ r w. fact 𝓤 (Gives0 a.0.now a.1.0 a.1.1.0 a.1.1.1.0 r w.0.now);
  }

module _ (E : El) (Z : Al) {M : Type 1} {𝓤 : Ura M} (𝓛 : Logic 𝓤) (C : Calls 𝓤 𝓛.H) (Λ : Loops 𝓤 𝓛.H) (κ : Lft)
    (q : Share) (rb ro : ℕ) (γ : GName) (d : (Ch E Z).Denot) (last : (Bp E).Denot) (room : (Rm E).Denot)
    (deed : (Dd E Z).Denot) (us0 us1 us2 us3 : List Val) where
  open 𝓛 use {H, A}

  abbrev self : MutBor (Ch E Z).Denot
  self = record { ref_ptr = (rb, ro); ghost_name = γ; now = d }

  abbrev bound : (walk_of 𝓛 (ended E Z) (stayed E Z) (spec E Z 𝓛)).Ghost
  bound = (((κ, tt), (q, tt), tt, (self, (last, (room, (deed, tt)))), (us0, (us1, (us2, (us3, tt))))), tt)

  abbrev Post : Val → SProp 𝓤
  Post = (walk_of 𝓛 (ended E Z) (stayed E Z) (spec E Z 𝓛)).post bound

  exits : us0 ≡ vptr rb ro ∷ [] → (r : (Out E Z).Denot) (v : Val) (new : (Ch E Z).Denot)
      → Gives0 E Z d last room deed r new → ent 𝓤 (⋆ 𝓛
      (‵ (fobs γ ((Ch E Z).coded.code new)) ∷ ‵ (fbor κ (Borrowed (mem (Ch E Z)) rb ro γ)) ∷ ‵ (flft κ q)
      ∷ ‵ ((Out E Z).own_val r (v ∷ [])) ∷ [])) (Post v)
  exits passed r v new g0 =
      qed 𝓛 (‵ (fobs γ ((Ch E Z).coded.code new)) ∷ ‵ (fbor κ (Borrowed (mem (Ch E Z)) rb ro γ)) ∷ ‵ (flft κ q)
      ∷ ‵ ((Out E Z).own_val r (v ∷ [])) ∷ []) ∵
      suffices ! _ (ends_at 𝓛 (ended E Z) (stayed E Z) (spec E Z 𝓛) bound v r (new, (tt, (tt, (tt, tt))))
      (tt, (tt, (tt, (tt, tt))))) $ says ! g0 $
      nothing ! $ move ! (3 ∷ 0 ∷ []) $ join ! $ frame ! $ feq_i ! (List Val) us0 (vptr rb ro ∷ []) passed $ fjoin3 !
      $ nothing ! $ nothing ! $ fjoin ! $ nothing ! $ fjoin ! $ nothing ! $ fjoin ! $ move ! (1 ∷ 0 ∷ []) $ fjoin !
      $ done !

  abbrev Had : List (Item 𝓤)
  Had = ‵ (fobs γ ((Ch E Z).coded.code d)) ∷ ‵ (fbor κ (Borrowed (mem (Ch E Z)) rb ro γ)) ∷ ‵ (flft κ q)
      ∷ ‵ (room_owns (R E) room.ptr) ∷ ‵ (deed_owns (R E) (token Z deed.alloc) deed.at) ∷ []

  walk : us0 ≡ vptr rb ro ∷ [] → Asks E Z d last room deed
      → ent 𝓤 (⋆ 𝓛 Had) (WpFn 𝓤 H C Λ (function E Z) (vptr rb ro ∷ word last.ptr ∷ word room.ptr ∷ mark ∷ []) Post)
  walk passed asked =
      let p : Ptr = room.ptr in let none : List (Place E) = replicate 32 None in let n = length d.blocks - 1 in
      let t : Ptr = nth d.blocks n in
      let long : length d.blocks ≡ n + 1 = omega (arith, asked.0.0) in
      let new : (Ch E Z).Denot = record {
        mark = d.mark;
        blocks = d.blocks ++ p ∷ [];
        slots = d.slots
            ++ none;
        alloc = d.alloc;
      } in
      qed 𝓛 Had ∵ enter ! C Λ (function E Z) (vptr rb ro ∷ word last.ptr ∷ word room.ptr ∷ mark ∷ []) _ $ alloc_all !
      (λ l. pass_all ! refl ((tt, tt), (word-Good [] last.ptr, (word-Good [] room.ptr, ((tt, (tt, tt)), tt)))) $
      let En : Env 𝓤 H = env (function E Z).locals l in
      opens ! tt (Ch E Z) {h = d} rb ro (λ vs. move ! (1 ∷ []) $ fsplit ! $ move ! (1 ∷ []) $ fsplit3 ! $
      -- [the places; the links; the deeds; the mark; its cell; the open borrow; obs; auth; the
      -- room; the deed]
      move ! (9 ∷ []) $ rewrite ! 0 (λ (x : Z.row.Denot × Ptr). ‵ (deed_owns (R E) (token Z x.0) x.1))
      (λ i. (asked.3 i, asked.2 i)) refl $
      move ! (3 ∷ 0 ∷ []) $ use2 𝓛 (‵ (deeds_own (R E) (token Z d.alloc) new.blocks))
      (deeds_grow E 𝓛 (token Z d.alloc) d.blocks p) $
      -- [the deeds; the places; the links; the mark; its cell; the open borrow; obs; auth; the
      -- room]
      move ! (2 ∷ []) $ use1 𝓛 (‵ (link_owns t null_ptr) ⊛ ‵ (Upto d.blocks)) (last_out 𝓛 n d.blocks long) $ split ! $
      in_a_block ! t (λ a. link_owns a null_ptr) (id⊢ 𝓤 (never 𝓤)) (λ lb lo el. pointer_out ! null_ptr lb (lo + 0) $
      move ! (9 ∷ []) $ in_a_block ! p (room_owns (R E)) (fst∗ 𝓤 (never 𝓤) (never 𝓤)) (λ b o e. fsplit ! $
      -- [the room of the new link; the new places; the last link's cell; the other links; the
      -- deeds; the places; the mark; its cell; the open borrow; obs; auth]
      sets ! (is ! (of_opd ! (get_in ! (fld ! refl (stop !)) (sub ! 0 refl (whole !)))) (ap ptr_val e)) refl (tt, tt) $
      sets ! (is ! (of_opd ! (get_in ! (fld ! refl (stop !)) (sub ! 0 refl (whole !))))
      (ap ptr_val (asked.0.1 ∙ el))) refl (tt, tt) $ first ! $ blocks ! $
      assigns ! (of_opd ! (lit ! tt)) (through ! refl (fld ! refl (stop !))) (init ! 0 refl (Ptr-Good null_ptr)) $
      assigns_last ! (of_opd ! (get ! refl)) (through ! refl (fld ! refl (stop !))) (store ! 2 refl (tt, tt)) $
      exec ! C Λ En (after 3 (function E Z).body) (at_ret En Post) $ sets !
      (is ! (agg ! (and_then ! (get ! refl) (no_more !))) (ap word (sym e))) refl (word-Good [] p) $
      pointer_in ! null_ptr b (o + 0) $ rewrite ! 0 (λ (a : Ptr). ‵ (link_owns a null_ptr)) (sym e) refl $
      move ! (2 ∷ []) $ pointer_in ! (block_ptr b o) lb (lo + 0) $ rewrite ! 0
      (λ (a : Ptr × Ptr). ‵ (link_owns a.0 a.1)) (λ i. (sym el i, sym e i)) refl $
      -- [the last link; the new link; the new places; the other links; the deeds; the places; the
      -- mark; ..]
      move ! (0 ∷ 1 ∷ 3 ∷ []) $ use3 𝓛 (‵ (links_own new.blocks)) (last_in 𝓛 n d.blocks p long) $
      -- [the links; the new places; the deeds; the places; the mark; ..]
      move ! (1 ∷ []) $ rewrite ! 0 (λ (a : Ptr). ‵ (Cells E a none)) (sym e) refl $ move ! (3 ∷ 0 ∷ []) $
      use2 𝓛 (‵ (Own E 𝓛 new.blocks new.slots)) (places_grow E 𝓛 d.blocks d.slots p none asked.1 refl) $
      -- [the places; the links; the deeds; the mark; its cell; the open borrow; obs; auth]
      fjoin3 ! $ move ! (1 ∷ 0 ∷ []) $ fjoin ! $ move ! (1 ∷ 0 ∷ []) $ closes ! tt (Ch E Z) new vs rb ro $
      returns ! (look_at ! 0 refl) $ free_all ! refl $ keep ! (0 ∷ 1 ∷ 2 ∷ []) $ word_made ! p $ move !
      (1 ∷ 2 ∷ 3 ∷ 0 ∷ []) $
      by ! (exits passed (record { ptr = p }) (word p) new (refl, refl, refl, refl))))))

  entry : Asks E Z d last room deed → ent 𝓤 (on_entry 𝓛 (ended E Z).signature (κ, tt) (q, tt)
      (self, (last, (room, (deed, tt)))) (us0, (us1, (us2, (us3, tt)))))
      (WpFn 𝓤 H C Λ (function E Z) (us0 ++ (us1 ++ (us2 ++ (us3 ++ ([]))))) Post)
  entry asked =
      qed 𝓛 ((‵ (flft κ q) ⊛ ‵ ftrue) ∷ ‵ (owns (MutRef (named 0) κ (Ch E Z) ∷ Bp E ∷ Rm E ∷ Dd E Z ∷ [])
      (self, (last, (room, (deed, tt)))) (us0, (us1, (us2, (us3, tt))))) ∷ []) ∵
      split ! $ move ! (2 ∷ []) $
      fsplit ! $
      fsplit3 ! $ feq_l ! (λ e0.
      move ! (2 ∷ []) $
      fsplit ! $
      word_had ! last.ptr us1 (λ e1.
      fsplit ! $
      fsplit ! $ word_had ! room.ptr us2 (λ e2.
      move ! (1 ∷ []) $
      fsplit ! $
      fsplit ! $ mark_had ! E us3 (λ e3.
      keep ! (3 ∷ 4 ∷ 5 ∷ 2 ∷ 0 ∷ []) $
      by ! (subst (λ (ws : List Val × List Val × List Val × List Val). ent 𝓤 (⋆ 𝓛 Had)
      (WpFn 𝓤 H C Λ (function E Z) (ws.0 ++ (ws.1 ++ (ws.2 ++ (ws.3 ++ ([]))))) Post))
      (λ j. (sym e0 j, sym e1 j, sym e2 j, sym e3 j)) (walk e0 asked))))))

meets : (E : El) (Z : Al) {M : Type 1} {𝓤 : Ura M} (𝓛 : Logic 𝓤) (𝓣 : Tables 𝓤 𝓛.H)
    → Meets 𝓛 (ended E Z).signature (WpFn 𝓤 𝓛.H 𝓣.C 𝓣.Λ (function E Z)) (closing 𝓛 (ended E Z) (spec E Z 𝓛))
meets E Z {𝓤 = 𝓤} 𝓛 𝓣 =
    walk_Meets 𝓛 (ended E Z) (stayed E Z) (
      Goes-ref 𝓛 1 0 tt (plain (λ _. Ch E Z)),
      (
        Goes-dropped 𝓛 1 (plain (λ _. Bp E)) no (λ κs x f. refl),
        (
          Goes-blank 𝓛 1 (plain (λ _. Rm E)) no (λ κs x f. tt),
          (Goes-blank 𝓛 1 (plain (λ _. Dd E Z)) no (λ κs x f. tt), tt),
        ),
      ),
    ) (spec E Z 𝓛)
    (WpFn 𝓤 𝓛.H 𝓣.C 𝓣.Λ (function E Z)) (WpFn-mono 𝓤 𝓛.H 𝓛.laws 𝓣 (function E Z))
    (λ z. needs 𝓤 (Asks E Z z.0.3.0.now z.0.3.1.0 z.0.3.1.1.0 z.0.3.1.1.1.0) _
    (entry E Z 𝓛 𝓣.C 𝓣.Λ z.0.0.0 z.0.1.0 z.0.3.0.ref_ptr.0 z.0.3.0.ref_ptr.1 z.0.3.0.ghost_name z.0.3.0.now
    z.0.3.1.0 z.0.3.1.1.0 z.0.3.1.1.1.0 z.0.4.0 z.0.4.1.0 z.0.4.1.1.0 z.0.4.1.1.1.0))

pub link_last_spec : {M : Type 1} → stated.statement M
unfolding tables_of
link_last_spec 𝓤 𝓛 𝓜 𝓡 wired X W LX LW g d dd met md y =
    let E : El = record { row = X; laws = LX } in
    let Z : Al = record { row = W; laws = LW; g = g; d = d; drops = dd } in
    let 𝓣 : Tables 𝓤 𝓛.H = tables_of 𝓤 𝓛.H 𝓜 (tables 𝓤 𝓛.H 𝓜 𝓡 𝓡.env) in
    let k = #self (args E Z) in
    spared 𝓛 (ended E Z).signature (𝓡.run (𝓡.env k)) (run_framed 𝓤 𝓛.H 𝓜 𝓡 (𝓡.env k)) 2 (X.lives, (W.lives, tt))
    (closing 𝓛 (ended E Z) (spec E Z 𝓛))
    (entered 𝓤 𝓛.H (triple_of 𝓛 (ended E Z).signature (closing 𝓛 (ended E Z) (spec E Z 𝓛))) 𝓣.C 𝓣.Λ k (function E Z)
    (code.unfolded 𝓤 𝓛.H 𝓜 𝓡 wired (X, (W, tt)) d dd) (meets E Z 𝓛 𝓣))
    ((y.0.0, y.0.1, tt, y.0.3, y.0.4), y.1)
