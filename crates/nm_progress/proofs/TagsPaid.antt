-- Each tag of an edge without a mark is paid by the flag of the leaf beside it.
use Rattle.std.proofs.Common.{◌≡◌, ◌≢◌, ℕ, zero, suc, ◌≤◌, ◌<◌, inl, inr, ◌⊎◌, eqb, ◌==◌, Bool, true, false, cond, not, ◌&&◌, List, [], ◌∷◌, ◌++◌, length, refl, sym, ap, subst, ◌∙◌, arith, true≢false}
use Rattle.std.specs.Prelude.{Option, Some, None, Result, Ok, Err, All, Contains}
use Rattle.std.proofs.lemmas.Bool.{cond-true, and_parts, and_from, eqb-true, eq-eqb, false_from_ne_true}
use Rattle.nm_edge.specs.Edges.{Edge, to, other, is_to, tagged, untagged}
use Rattle.nm_edge.specs.Layouts.{Layout}
use Rattle.nm_edge.specs.declared.edge.Side.{Side}
use Rattle.nm_edge.specs.declared.node.NodeId.{NodeId}
use Rattle.nm_model.specs.declared.event.Event.{Event}
use Rattle.nm_model.specs.declared.event.Event.TheVariants.{Link, Flag, Tag, Splice, Swap}
use Rattle.nm_model.specs.declared.reply.Reply.{Reply}
use Rattle.nm_model.specs.declared.reply.Reply.TheVariants.{Linked, Flagged, Was, Cut, Lost}
use Rattle.nm_model.specs.declared.reply.Refused.{Refused}
use Rattle.nm_model.specs.Memory.{Memory, edge, child, named, put_edge}
use Rattle.nm_model.specs.Knowledge.{knows, is_private, read, is_tagged, is_flagged, slot_read}
use Rattle.nm_model.specs.Paths.{follow, Reached}
use Rattle.nm_model.specs.Step.{cut_nodes, kept, reply, write}
use Rattle.nm_model.specs.Runs.{State, of, reply_of, applied}
use Rattle.nm_model.specs.Ordered.{Configuration, ordered, refused_in, applied_in, next_in, outcome_in, after_in}
use Rattle.nm_laws.proofs.Configurations.{allowed_next, allowed_by_state}
use Rattle.nm_laws.proofs.Outcomes.{same_reply, no_reply}
use Rattle.nm_laws.proofs.ListOrders.{In}
use Rattle.nm_laws.proofs.Steps.{Allowed, allowed}
use Rattle.nm_laws.proofs.Trees.{same_side, same_side-refl, follow-append}
use Rattle.nm_laws.proofs.TreeSteps.{Lawful, tag_checked, tag_not_null}
use Rattle.nm_laws.proofs.Cuts.{Shown, ShownSwap, shown, shown_swap}
use Rattle.nm_laws.proofs.Pictures.{IsLive, IsOnPath, reached_live}
use Rattle.nm_laws.proofs.Splices.{live_on_path, unmarked_not_queued}
use Rattle.nm_laws.proofs.Views.{picture, edge_put}
use Rattle.nm_laws.proofs.TreeSlots.{flag_known}
use Rattle.nm_order.specs.Intervals.{HasKey}
use Rattle.nm_order.specs.Exchanges.{is_won_link}
use Rattle.nm_order.specs.Moments.{OfEachOrderedRun}
use Rattle.nm_order.proofs.OrderedChanges.{off_root}
use Rattle.nm_order.proofs.OrderedLaws.{IsOrdered, ordered_next, each_ordered, law_of_state}
use Rattle.nm_order.proofs.FlaggedPaths.{On, way_ends}
use Rattle.nm_order.proofs.RunExchanges.{first_keys}
use Rattle.nm_order.proofs.CutTurns.{CutOrNot, cut_or_not, uncut_stays}
use Rattle.nm_order.proofs.CutTurns.CutOrNot.{StaysReached, IsCutNow}
use Rattle.nm_order.proofs.SetChanges.{is_won_swap, swap_entry, turn_was_reached}
use Rattle.nm_order.proofs.ToldLaws.{live_then, twice_other}
use Rattle.nm_order.proofs.TurnEdges.{turn_origin, turn_reached, nothing_below}
use Rattle.nm_order.proofs.EdgeOrigins.EdgeOrigin.{WasThere, IsFlaggedNow, LeadsToNew, LeadsNowhere}
use Rattle.nm_order.proofs.EdgeOrigins.{EdgeOrigin}
use Rattle.nm_order.proofs.PendingLeaves.{flag_leads_high}
use Rattle.nm_progress.specs.Changes.{is_bare}
use Rattle.nm_progress.specs.Paid.{flags_on, tags_on, TagsArePaid, TagsArePaidSince}
use Rattle.nm_progress.proofs.Covers.{NextList, next_list}
use Rattle.nm_progress.proofs.OneParents.{one_parent}
use Rattle.nm_progress.proofs.LostTries.{later_keys, answered_so}
use Rattle.nm_progress.proofs.SplicesPaid.{flags_shown, paid_over, no_flags, pending, few_pending, covered}
use Rattle.nm_progress.proofs.EdgeFates.{EdgeFate, TurnFate, turn_fates}
use Rattle.nm_progress.proofs.EdgeFates.EdgeFate.{Kept, IsLinked, IsFlagged, IsTagged, IsSpliced, IsSwapped}
use Rattle.nm_progress.proofs.EdgeFates.TurnFate.{Refuses, Makes}

-- ---- edges that are tagged and not flagged

abbrev pub is_pure : Edge → Bool
is_pure e = e.tag && not e.flag

pure_flagged : (e : Edge) → e.flag ≡ true → is_pure e ≡ false
pure_flagged e flag = by e.tag e.flag flag
  where
    by : (t f : Bool) → f ≡ true → (t && not f) ≡ false
    by true f is = ap not is
    by false f is = refl

pub bare_parts : (e : Edge) → is_bare e ≡ true → e ≡ to e.slot
bare_parts e bare = by (and_parts (not e.flag) (not e.tag) bare)
  where
    no : (b : Bool) → not b ≡ true → b ≡ false
    no true is = absurd (true≢false (sym is))
    no false is = refl

    by : (not e.flag ≡ true) × (not e.tag ≡ true) → e ≡ to e.slot
    by parts = λ i. record { slot = e.slot; flag = no e.flag parts.0 i; tag = no e.tag parts.1 i }

tags_shown : (e : Event) (o : Result Reply Refused) → tags_on e o ≡ true
    → (p : ℕ) × (d : Side) × (was : Edge) × (e ≡ Tag p d) × (o ≡ Ok (Was was)) × (is_bare was ≡ true)
tags_shown (Tag p d) (Ok (Was e)) is = (p, d, e, refl, refl, is)
tags_shown e o is = absurd (true≢false (sym is))

-- such a leaf, but where the edge beside is tagged and not flagged
abbrev pub IsUncutLeaf : Configuration → ℕ → Type 0
IsUncutLeaf c x = (y : ℕ) × (g : Side) × Reached c.state.memory y × ((edge c.state.memory y g).flag ≡ true)
    × (is_pure (edge c.state.memory y (other g)) ≡ false) × (child c.state.memory y g ≡ x)

tag_writes : (s : State) (w p : ℕ) (d : Side) → write s.memory (of s w) w (Tag p d)
    ≡ put_edge s.memory p d (tagged (edge s.memory p d))
unfolding write
tag_writes s w p d = refl

tag_told : (s : State) (w p : ℕ) (d : Side) → reply_of s w (Tag p d) ≡ Was (edge s.memory p d)
unfolding reply
tag_told s w p d = refl

applied_memory : (c : Configuration) (t : ℕ × Event)
    → (applied_in c t.0 t.1).state.memory ≡ write c.state.memory (of c.state t.0) t.0 t.1
unfolding applied_in applied
applied_memory c t = refl

splice_wins : (s : State) (w a x p : ℕ) (d keep : Side) (ns : List NodeId)
    → reply_of s w (Splice a d x p keep) ≡ Cut ns → is_to (edge s.memory a d) x ≡ true
unfolding reply
splice_wins s w a x p d keep ns told = by (is_to (edge s.memory a d) x) refl told
  where
    by : (b : Bool) → is_to (edge s.memory a d) x ≡ b
        → cond b (Cut (cut_nodes s.layout s.memory (of s w) x p keep)) (Lost (edge s.memory a d)) ≡ Cut ns
        → is_to (edge s.memory a d) x ≡ true
    by true is e = is
    by false is e = absurd (differ e)
      where
        differ : Lost (edge s.memory a d) ≡ Cut ns → ⊥
        differ e = cc

swap_wins : (s : State) (w p leaf new : ℕ) (d : Side) (ns : List NodeId) → reply_of s w (Swap p d leaf new) ≡ Cut ns
    → (is_to (edge s.memory p d) leaf ≡ true) × (ns ≡ named s.memory leaf ∷ [])
unfolding reply
swap_wins s w p leaf new d ns told = by (is_to (edge s.memory p d) leaf) refl told
  where
    same : (xs : List NodeId) → Cut xs ≡ Cut ns → ns ≡ xs
    same xs e = cc

    by : (b : Bool) → is_to (edge s.memory p d) leaf ≡ b
        → cond b (Cut (named s.memory leaf ∷ [])) (Lost (edge s.memory p d)) ≡ Cut ns
        → (is_to (edge s.memory p d) leaf ≡ true) × (ns ≡ named s.memory leaf ∷ [])
    by true is e = (is, same (named s.memory leaf ∷ []) e)
    by false is e = absurd (differ e)
      where
        differ : Lost (edge s.memory p d) ≡ Cut ns → ⊥
        differ e = cc

-- ---- one turn

module _ (L : Layout) (enough : 5 ≤ L.nodes) (c : Configuration) (t : ℕ × Event) (has : HasKey t.1)
    (o : IsOrdered L c) where
  after : IsOrdered L (next_in c t)
  after = ordered_next L enough c t has o

  law : (h : ℕ → ℕ) × Lawful c.state h
  law = law_of_state L enough c o

  may : (r : Reply) → outcome_in c t ≡ Ok r → Allowed c.state t.0 t.1
  may r is = allowed c.state t.0 t.1 (allowed_by_state c t.0 t.1 (answered_so c t.0 t.1 r is).0)

  -- what is reached is private to nobody
  pub unheld : (y : ℕ) → Reached c.state.memory y → is_private (of c.state t.0) y ≡ false
  unheld y r = false_from_ne_true _ (λ own. off_root c.state law.0 law.1 t.0 y own r.path r.ends)

  -- a node with a flagged edge that is reached then was reached
  was_reached : (y : ℕ) (g : Side) → Reached (next_in c t).state.memory y
      → (edge (next_in c t).state.memory y g).flag ≡ true → Reached c.state.memory y
  was_reached y g r flag = by (outcome_in c t) refl
    where
      -- if the turn leaves reached each node with a flagged edge
      as_was : ((p' : ℕ) (d' : Side) → Reached c.state.memory p' → (edge c.state.memory p' d').flag ≡ true
          → Reached (next_in c t).state.memory p') → Reached c.state.memory y
      as_was stays = or_held (turn_reached L enough c t o (nothing_below L enough (next_in c t) t after) y r)
        where
          two : (p' : ℕ) (d' : Side) → Reached c.state.memory p' → (edge c.state.memory p' d').flag ≡ true
              → child c.state.memory p' d' ≡ child (next_in c t).state.memory y g → Reached c.state.memory y
          two p' d' reached flag' leads =
              subst (Reached c.state.memory)
              (one_parent L enough (next_in c t) after p' y d' g (stays p' d' reached flag') r
              (λ z. some (sym now ∙ z)) (now ∙ leads)).0 reached
            where
              some : child c.state.memory p' d' ≢ 0
              some z = let high = flag_leads_high L enough c o p' d' reached flag' in absurd (omega (arith, high, z))

              on : (q : Reply) → EdgeFate c.state t.0 t.1 (next_in c t).state.memory q p' d'
                  → child (next_in c t).state.memory p' d' ≡ child c.state.memory p' d'
              on q (Kept same) = ap (λ (e : Edge). e.slot) same
              on q (IsLinked l m k e reply was now) = absurd (true≢false (sym flag' ∙ ap (λ (e : Edge). e.flag) was))
              on q (IsFlagged l k e reply was now) = absurd (true≢false (sym flag' ∙ ap (λ (e : Edge). e.flag) was))
              on q (IsTagged e reply now) = ap (λ (e : Edge). e.slot) now
              on q (IsSpliced a b k ns e reply was now) = absurd
                  (true≢false (sym flag' ∙ ap (λ (e : Edge). e.flag) was))
              on q (IsSwapped l m ns e reply was now) = absurd (true≢false (sym flag' ∙ ap (λ (e : Edge). e.flag) was))

              now : child (next_in c t).state.memory p' d' ≡ child c.state.memory p' d'
              now = fate (turn_fates L enough c t o p' d' (unheld p' reached))
                where
                  fate : TurnFate c t p' d' → child (next_in c t).state.memory p' d' ≡ child c.state.memory p' d'
                  fate (Refuses q e same) = ap (λ (d : Configuration). child d.state.memory p' d') same
                  fate (Makes q e f) = on q f

          origin : EdgeOrigin c.state t.0 t.1 (next_in c t).state.memory y g → Reached c.state.memory y
          origin (WasThere p' d' reached leads same) = two p' d' reached (same ∙ flag) leads
          origin (IsFlaggedNow l is reached unmarked marked) = reached
          origin (LeadsToNew p' d' l m is unmarked held none) = absurd (true≢false (sym flag ∙ none))
          origin (LeadsNowhere none) = absurd (let high = flag_leads_high L enough (next_in c t) after y g r flag in
              omega (arith, high, none))

          or_held : Reached c.state.memory y ⊎ (is_private (of c.state t.0) y ≡ true) → Reached c.state.memory y
          or_held (inl was) = was
          or_held (inr held) = origin (turn_origin L enough c t o y r g)

      linked : (n : NodeId) → outcome_in c t ≡ Ok (Linked n) → Reached c.state.memory y
      linked n told = as_was (λ p' d' reached flag'. uncut_stays L enough c t o uncut p' reached)
        where
          uncut : (ns : List NodeId) → outcome_in c t ≡ Ok (Cut ns) → ⊥
          uncut ns is = differ (same_reply (Linked n) (Cut ns) (sym told ∙ is))
            where
              differ : Linked n ≡ Cut ns → ⊥
              differ e = cc

      -- a swap cuts a leaf, which has no edge
      swapped : (p leaf new : ℕ) (d : Side) (ns : List NodeId) → t.1 ≡ Swap p d leaf new
          → outcome_in c t ≡ Ok (Cut ns) → Reached c.state.memory y
      swapped p leaf new d ns event told =
          as_was (λ p' d' reached flag'. stays p' d' reached flag' (cut_or_not L enough c t has o p' reached))
        where
          won : (is_to (edge c.state.memory p d) leaf ≡ true) × (ns ≡ named c.state.memory leaf ∷ [])
          won = swap_wins c.state t.0 p leaf new d ns (ap (reply_of c.state t.0) (sym event)
              ∙ (answered_so c t.0 t.1 (Cut ns) told).1)

          k : ShownSwap c.state law.0 t.0 p d leaf new
          k = shown_swap c.state law.0 law.1 t.0 p d leaf new
              (subst (Allowed c.state t.0) event (may (Cut ns) told)) won.0

          stays : (p' : ℕ) (d' : Side) → Reached c.state.memory p' → (edge c.state.memory p' d').flag ≡ true
              → CutOrNot L enough c t p' → Reached (next_in c t).state.memory p'
          stays p' d' reached flag' (StaysReached still) = still
          stays p' d' reached flag' (IsCutNow ms is among gone) =
              let is_leaf : p' ≡ leaf =
              same_slot p' (subst (λ (ks : List NodeId). Contains ks (named c.state.memory p'))
              (same_nodes ms ns (same_reply (Cut ms) (Cut ns) (sym is ∙ told)) ∙ won.1) among) in
              let none = ap (λ (z : ℕ). child c.state.memory z d') is_leaf ∙ k.swap.is_leaf d' in
              absurd (let high = flag_leads_high L enough c o p' d' reached flag' in omega (arith, high, none))
            where
              same_nodes : (xs ys : List NodeId) → Cut xs ≡ Cut ys → xs ≡ ys
              same_nodes xs ys e = cc

              same_slot : (z : ℕ) → Contains (named c.state.memory leaf ∷ []) (named c.state.memory z) → z ≡ leaf
              same_slot z (zero, below, at) = sym (ap (λ (n : NodeId). n.slot) at)
              same_slot z (suc i, below, at) = absurd (omega (arith, below))

      links : (e : Event) (q : Reply) → is_won_link (e, q) ≡ true → (n : NodeId) × (q ≡ Linked n)
      links (Link p d leaf new) (Linked n) is = (n, refl)
      links e q is = absurd (true≢false (sym is))

      by : (q : Result Reply Refused) → outcome_in c t ≡ q → Reached c.state.memory y
      by (Err q) told = turn_was_reached L enough c t has o (λ k is. absurd (no_reply q k (sym told ∙ is)))
          (λ k is. absurd (no_reply q k (sym told ∙ is))) y r
      by (Ok q) told = on (is_won_link (t.1, q)) refl (is_won_swap t.1 q) refl
        where
          on : (b : Bool) → is_won_link (t.1, q) ≡ b → (b' : Bool) → is_won_swap t.1 q ≡ b' → Reached c.state.memory y
          on false none false plain =
              turn_was_reached L enough c t has o
              (λ k is. ap (λ (q : Reply). is_won_link (t.1, q)) (same_reply k q (sym is ∙ told)) ∙ none)
              (λ k is. ap (is_won_swap t.1) (same_reply k q (sym is ∙ told)) ∙ plain) y r
          on false none true won = let k = swap_entry t.1 q won in
              swapped k.0 k.2 k.3 k.1 k.4 k.5 (told ∙ ap (λ (q : Reply). Ok q) k.6)
          on true won b' is = let k = links t.1 q won in linked k.0 (told ∙ ap (λ (q : Reply). Ok q) k.1)

  -- where a flagged edge of a reached node comes from, beside which is no edge that is tagged alone
  data UncutOrigin (y : ℕ) (g : Side) : Type 0 where
    Before : (p : ℕ) (d : Side) → Reached c.state.memory p → (edge c.state.memory p d).flag ≡ true
        → is_pure (edge c.state.memory p (other d)) ≡ false
        → child c.state.memory p d ≡ child (next_in c t).state.memory y g → UncutOrigin y g
    Now : (leaf : ℕ) → t.1 ≡ Flag y g leaf → child (next_in c t).state.memory y g ≡ leaf
        → flags_on t.1 (outcome_in c t) ≡ true → UncutOrigin y g

  module _ (y : ℕ) (g : Side) (r : Reached (next_in c t).state.memory y)
      (flag : (edge (next_in c t).state.memory y g).flag ≡ true)
      (uncut : is_pure (edge (next_in c t).state.memory y (other g)) ≡ false) where
    once : Reached c.state.memory y
    once = was_reached y g r flag

    -- the edge beside, where this one was flagged before
    twin : (edge c.state.memory y g).flag ≡ true → is_pure (edge c.state.memory y (other g)) ≡ false
    twin flag' = fate (turn_fates L enough c t o y (other g) (unheld y once))
      where
        high : 6 ≤ child c.state.memory y g
        high = flag_leads_high L enough c o y g once flag'

        some : child c.state.memory y (other g) ≢ 0
        some z = absurd (let null = ap (child c.state.memory y) (sym (twice_other g))
            ∙ law.1.tree.twins y (other g) live z in omega (arith, high, null))
          where
            live : IsLive (picture c.state law.0) y
            live = subst (IsLive (picture c.state law.0)) once.ends
                (reached_live c.state.layout.nodes (picture c.state law.0) law.1.tree once.path
                (λ z. once.is_slot (sym once.ends ∙ z)))

        retagged : (e : Edge) → e.slot ≢ 0 → is_pure (tagged e) ≡ false → is_pure e ≡ false
        retagged e there is = go (e.slot == 0) refl is
          where
            go : (b : Bool) → (e.slot == 0) ≡ b → (not b && not e.flag) ≡ false → is_pure e ≡ false
            go true null k = absurd (there (eqb-true e.slot 0 null))
            go false null k = on e.tag
              where
                on : (t : Bool) → (t && not e.flag) ≡ false
                on true = k
                on false = refl

        on : (q : Reply) → EdgeFate c.state t.0 t.1 (next_in c t).state.memory q y (other g)
            → is_pure (edge c.state.memory y (other g)) ≡ false
        on q (Kept same) = ap is_pure (sym same) ∙ uncut
        on q (IsLinked l m k e reply was now) = ap is_pure was
        on q (IsFlagged l k e reply was now) = ap is_pure was
        on q (IsTagged e reply now) = retagged (edge c.state.memory y (other g)) some (ap is_pure (sym now) ∙ uncut)
        on q (IsSpliced a b k ns e reply was now) = ap is_pure was
        on q (IsSwapped l m ns e reply was now) = ap is_pure was

        fate : TurnFate c t y (other g) → is_pure (edge c.state.memory y (other g)) ≡ false
        fate (Refuses q e same) = ap (λ (d : Configuration). is_pure (edge d.state.memory y (other g))) (sym same)
            ∙ uncut
        fate (Makes q e f) = on q f

    -- a splice that puts a flagged edge there
    spliced : (q : Reply) → outcome_in c t ≡ Ok q → (x p : ℕ) (keep : Side) (ns : List NodeId)
        → t.1 ≡ Splice y g x p keep → q ≡ Cut ns → edge (next_in c t).state.memory y g
        ≡ kept (read (of c.state t.0) p keep) → UncutOrigin y g
    spliced q told x p keep ns event reply now = made (read (of c.state t.0) p keep) refl k.tag
        (read (of c.state t.0) p (other keep)) refl k.flag
      where
        ok : Allowed c.state t.0 (Splice y g x p keep)
        ok = subst (Allowed c.state t.0) event (may q told)

        answer : reply_of c.state t.0 (Splice y g x p keep) ≡ Cut ns
        answer = ap (reply_of c.state t.0) (sym event) ∙ ((answered_so c t.0 t.1 q told).1 ∙ reply)

        k : Shown c.state law.0 t.0 y g x p keep
        k = shown c.state law.0 law.1 t.0 y g x p keep ok (splice_wins c.state t.0 y x p g keep ns answer)

        so : (z : ℕ) (f : Side) → is_tagged (read (of c.state t.0) z f) ≡ true
            → slot_read (read (of c.state t.0) z f) ≡ child c.state.memory z f
        so z f = go (read (of c.state t.0) z f) refl
          where
            go : (o : Option Edge) → read (of c.state t.0) z f ≡ o → is_tagged o ≡ true
                → slot_read o ≡ child c.state.memory z f
            go None is tag = absurd (true≢false (sym tag))
            go (Some e) is tag = ap (λ (x : Edge). x.slot) (sym (law.1.tree.tag_read t.0 z f e is tag))

        to_p : On (child c.state.memory) 1 p
        to_p = (
          once.path ++ g ∷ k.sides,
          follow-append (child c.state.memory) 1 once.path (g ∷ k.sides)
              ∙ (ap (λ (z : ℕ). follow (child c.state.memory) (child c.state.memory z g) k.sides) once.ends
              ∙ (ap (λ (z : ℕ). follow (child c.state.memory) z k.sides) (ap (λ (e : Edge). e.slot) k.is)
              ∙ way_ends (child c.state.memory) (of c.state t.0) so c.state.layout.nodes x p k.sides k.found)),
        )

        made : (a : Option Edge) → read (of c.state t.0) p keep ≡ a → is_tagged a ≡ true → (b : Option Edge)
            → read (of c.state t.0) p (other keep) ≡ b → is_flagged b ≡ true → UncutOrigin y g
        made None is tag b is' flag' = absurd (true≢false (sym tag))
        made (Some e) is tag None is' flag' = absurd (true≢false (sym flag'))
        made (Some e) is tag (Some f) is' flag' = Before p keep p_reached
            (ap (λ (x : Edge). x.flag) kept_edge ∙ (sym (ap (λ (x : Edge). x.flag) now_is) ∙ flag))
            (pure_flagged (edge c.state.memory p (other keep)) (law.1.tree.flag_read t.0 p (other keep) f is' flag').0)
            (ap (λ (x : Edge). x.slot) kept_edge ∙ sym (ap (λ (x : Edge). x.slot) now_is))
          where
            kept_edge : edge c.state.memory p keep ≡ e
            kept_edge = law.1.tree.tag_read t.0 p keep e is tag

            now_is : edge (next_in c t).state.memory y g ≡ untagged e
            now_is = now ∙ ap kept is

            p_reached : Reached c.state.memory p
            p_reached = record {
              path = to_p.0;
              ends = to_p.1;
              is_slot = λ z.
                  (let range = law.1.tree.known t.0 p (law.1.tree.reads t.0 p keep e is) in
                  absurd (omega (arith, range, z)));
            }

    uncut_origin : UncutOrigin y g
    uncut_origin = fate (turn_fates L enough c t o y g (unheld y once))
      where
        still : (edge c.state.memory y g).flag ≡ true
            → child c.state.memory y g ≡ child (next_in c t).state.memory y g → UncutOrigin y g
        still flag' leads = Before y g once flag' (twin flag') leads

        on : (q : Reply) → outcome_in c t ≡ Ok q → EdgeFate c.state t.0 t.1 (next_in c t).state.memory q y g
            → UncutOrigin y g
        on q told (Kept same) = still (sym (ap (λ (e : Edge). e.flag) same) ∙ flag)
            (sym (ap (λ (e : Edge). e.slot) same))
        on q told (IsLinked l m k e reply was now) = absurd (true≢false (sym flag ∙ ap (λ (e : Edge). e.flag) now))
        on q told (IsSwapped l m ns e reply was now) = absurd (true≢false (sym flag ∙ ap (λ (e : Edge). e.flag) now))
        on q told (IsFlagged l k e reply was now) = Now l e (ap (λ (e : Edge). e.slot) now)
            (λ i. flags_on (e i) ((told ∙ ap (λ (q : Reply). Ok q) reply) i))
        on q told (IsTagged e reply now) = still (sym (ap (λ (e : Edge). e.flag) now) ∙ flag)
            (sym (ap (λ (e : Edge). e.slot) now))
        on q told (IsSpliced x p keep ns e reply was now) = spliced q told x p keep ns e reply now

        fate : TurnFate c t y g → UncutOrigin y g
        fate (Refuses q e same) = still (ap (λ (d : Configuration). (edge d.state.memory y g).flag) (sym same)
            ∙ flag) (ap (λ (d : Configuration). child d.state.memory y g) (sym same))
        fate (Makes q e f) = on q e f

  -- ---- a tag of an edge without a mark

  -- the leaf beside it, and that the edge is tagged alone behind the turn
  record PaysTag : Type 0 where
    node : ℕ
    side : Side
    reached : Reached c.state.memory node
    flagged : (edge c.state.memory node (other side)).flag ≡ true
    uncut : is_pure (edge c.state.memory node (other (other side))) ≡ false
    stays : Reached (next_in c t).state.memory node
    same : child (next_in c t).state.memory node (other side) ≡ child c.state.memory node (other side)
    cut : is_pure (edge (next_in c t).state.memory node side) ≡ true

  pays_tag : tags_on t.1 (outcome_in c t) ≡ true → PaysTag
  pays_tag is = tag (tags_shown t.1 (outcome_in c t) is)
    where
      tag : (p : ℕ) × (d : Side) × (was : Edge) × (t.1 ≡ Tag p d) × (outcome_in c t ≡ Ok (Was was))
          × (is_bare was ≡ true) → PaysTag
      tag k = record {
        node = x;
        side = d;
        reached = reached;
        flagged = flagged;
        uncut = ap is_pure (ap (edge c.state.memory x) (twice_other d) ∙ unmarked);
        stays = uncut_stays L enough c t o (λ ns cut. differ ns (same_reply (Was k.2) (Cut ns) (sym k.4 ∙ cut))) x
            reached;
        same = beside (turn_fates L enough c t o x (other d) (unheld x reached));
        cut = ap is_pure now ∙ pure;
      }
        where
          x : ℕ
          x = k.0

          d : Side
          d = k.1

          ok : Allowed c.state t.0 (Tag k.0 k.1)
          ok = subst (Allowed c.state t.0) k.3 (may (Was k.2) k.4)

          asks : (knows (of c.state t.0) k.0 ≡ true) × (is_flagged (read (of c.state t.0) k.0 (other k.1)) ≡ true)
          asks = tag_checked c.state t.0 k.0 k.1 ok.event

          differ : (ns : List NodeId) → Was k.2 ≡ Cut ns → ⊥
          differ ns e = cc

          same_was : (a b : Edge) → Was a ≡ Was b → a ≡ b
          same_was a b e = cc

          was_is : k.2 ≡ edge c.state.memory k.0 k.1
          was_is = same_was k.2 _ (sym (answered_so c t.0 t.1 (Was k.2) k.4).1
              ∙ (ap (reply_of c.state t.0) k.3 ∙ tag_told c.state t.0 k.0 k.1))

          unmarked : edge c.state.memory k.0 k.1 ≡ to (child c.state.memory k.0 k.1)
          unmarked = bare_parts (edge c.state.memory k.0 k.1) (ap is_bare (sym was_is) ∙ k.5)

          flagged : (edge c.state.memory k.0 (other k.1)).flag ≡ true
          flagged = (flag_known c.state.layout.nodes c.state.memory (of c.state) law.0 t.0 k.0 (other k.1) law.1.tree
              asks.1).0

          live : IsLive (picture c.state law.0) k.0
          live = live_then c.state law.0 law.1 t.0 k.0 asks.0

          range : (1 ≤ k.0) × (k.0 ≤ c.state.layout.nodes)
          range = law.1.tree.known t.0 k.0 asks.0

          there : child c.state.memory k.0 k.1 ≢ 0
          there = tag_not_null c.state law.0 law.1 t.0 k.0 k.1 ok.event

          on_path : IsOnPath (picture c.state law.0) k.0
          on_path = live_on_path c.state.layout.nodes (picture c.state law.0) k.0 law.1.tree live
              (λ z. absurd (omega (arith, range, z))) range.1
              (unmarked_not_queued c.state.layout.nodes (picture c.state law.0) k.0 k.1 (child c.state.memory k.0 k.1)
              law.1.tree unmarked there)

          reached : Reached c.state.memory k.0
          reached = record { path = on_path.path; ends = on_path.ends; is_slot = on_path.is_slot }

          inside : k.0 < length c.state.memory.nodes
          inside = let size = law.1.roomy.nodes in omega (arith, range, size)

          now_memory : (next_in c t).state.memory ≡ put_edge c.state.memory k.0 k.1
              (tagged (edge c.state.memory k.0 k.1))
          now_memory = by (answered_so c t.0 t.1 (Was k.2) k.4).0
            where
              by : refused_in c t.0 t.1 ≡ None → (next_in c t).state.memory
                  ≡ put_edge c.state.memory k.0 k.1 (tagged (edge c.state.memory k.0 k.1))
              by why = ap (λ (d : Configuration). d.state.memory) (allowed_next c t why)
                  ∙ (applied_memory c t ∙ (ap (λ (e : Event). write c.state.memory (of c.state t.0) t.0 e) k.3
                  ∙ tag_writes c.state t.0 k.0 k.1))

          now : edge (next_in c t).state.memory k.0 k.1 ≡ tagged (edge c.state.memory k.0 k.1)
          now = ap (λ (m : Memory). edge m k.0 k.1) now_memory
              ∙ (edge_put c.state.memory k.0 k.1 (tagged (edge c.state.memory k.0 k.1)) inside k.0 k.1
              ∙ cond-true (eqb k.0 k.0 && same_side k.1 k.1) (tagged (edge c.state.memory k.0 k.1))
              (edge c.state.memory k.0 k.1) (and_from (eqb k.0 k.0) (same_side k.1 k.1) (eq-eqb k.0 k.0 refl)
              (same_side-refl k.1)))

          pure : is_pure (tagged (edge c.state.memory k.0 k.1)) ≡ true
          pure = ap (λ (e : Edge). is_pure (tagged e)) unmarked ∙ by (child c.state.memory k.0 k.1 == 0) refl
            where
              by : (b : Bool) → (child c.state.memory k.0 k.1 == 0) ≡ b → (not b && true) ≡ true
              by true null = absurd (there (eqb-true (child c.state.memory k.0 k.1) 0 null))
              by false null = refl

          beside : TurnFate c t k.0 (other k.1) → child (next_in c t).state.memory k.0 (other k.1)
              ≡ child c.state.memory k.0 (other k.1)
          beside (Refuses q e same) = ap (λ (d : Configuration). child d.state.memory k.0 (other k.1)) same
          beside (Makes q e f) = on f
            where
              on : EdgeFate c.state t.0 t.1 (next_in c t).state.memory q k.0 (other k.1)
                  → child (next_in c t).state.memory k.0 (other k.1) ≡ child c.state.memory k.0 (other k.1)
              on (Kept same) = ap (λ (e : Edge). e.slot) same
              on (IsLinked l m n e reply was now) = absurd (true≢false (sym flagged ∙ ap (λ (e : Edge). e.flag) was))
              on (IsFlagged l n e reply was now) = absurd (true≢false (sym flagged ∙ ap (λ (e : Edge). e.flag) was))
              on (IsTagged e reply now) = ap (λ (e : Edge). e.slot) now
              on (IsSpliced a b n ns e reply was now) = absurd
                  (true≢false (sym flagged ∙ ap (λ (e : Edge). e.flag) was))
              on (IsSwapped l m ns e reply was now) = absurd (true≢false (sym flagged ∙ ap (λ (e : Edge). e.flag) was))

  -- ---- a list behind the turn

  flags_or_tags : (e : Event) (r : Result Reply Refused) → flags_on e r ≡ true → tags_on e r ≡ false
  flags_or_tags (Flag p d leaf) (Ok (Flagged n)) is = refl
  flags_or_tags e r is = absurd (true≢false (sym is))

  pub next_uncut : (slots : List ℕ) → ((x : ℕ) → IsUncutLeaf c x → In slots x)
      → NextList (IsUncutLeaf c) (IsUncutLeaf (next_in c t)) (flags_on t.1 (outcome_in c t))
      (tags_on t.1 (outcome_in c t)) slots
  next_uncut = next_list (IsUncutLeaf c) (IsUncutLeaf (next_in c t)) (flags_on t.1 (outcome_in c t))
      (tags_on t.1 (outcome_in c t)) (flags_or_tags t.1 (outcome_in c t)) adds takes stays
    where
      adds : flags_on t.1 (outcome_in c t) ≡ true → (new : ℕ)
          × ((x : ℕ) → IsUncutLeaf (next_in c t) x → (x ≡ new) ⊎ IsUncutLeaf c x)
      adds flags = (f.2, λ x is. on x is (uncut_origin is.0 is.1 is.2 is.3 is.4))
        where
          f : (p : ℕ) × (d : Side) × (leaf : ℕ) × (n : NodeId) × (t.1 ≡ Flag p d leaf)
              × (outcome_in c t ≡ Ok (Flagged n))
          f = flags_shown t.1 (outcome_in c t) flags

          same_leaf : (a b : ℕ) (x y : ℕ) (d g : Side) → Flag x d a ≡ Flag y g b → b ≡ a
          same_leaf a b x y d g e = cc

          on : (x : ℕ) (is : IsUncutLeaf (next_in c t) x) → UncutOrigin is.0 is.1 → (x ≡ f.2) ⊎ IsUncutLeaf c x
          on x is (Before p d reached flag uncut leads) = inr (p, d, reached, flag, uncut, leads ∙ is.5)
          on x is (Now leaf event at won) = inl (sym is.5
              ∙ (at ∙ same_leaf f.2 leaf f.0 is.0 f.1 is.1 (sym f.4 ∙ event)))

      stays : flags_on t.1 (outcome_in c t) ≡ false → (x : ℕ) → IsUncutLeaf (next_in c t) x → IsUncutLeaf c x
      stays flags x is = on (uncut_origin is.0 is.1 is.2 is.3 is.4)
        where
          on : UncutOrigin is.0 is.1 → IsUncutLeaf c x
          on (Before p d reached was pure leads) = (p, d, reached, was, pure, leads ∙ is.5)
          on (Now leaf event at won) = absurd (true≢false (sym won ∙ flags))

      takes : flags_on t.1 (outcome_in c t) ≡ false → tags_on t.1 (outcome_in c t) ≡ true
          → (gone : ℕ) × IsUncutLeaf c gone × ((x : ℕ) → IsUncutLeaf (next_in c t) x → (x ≢ gone) × IsUncutLeaf c x)
      takes flags tags = (
        child c.state.memory k.node (other k.side),
        (k.node, other k.side, k.reached, k.flagged, k.uncut, refl),
        λ x is. (apart x is, stays flags x is),
      )
        where
          k : PaysTag
          k = pays_tag tags

          apart : (x : ℕ) → IsUncutLeaf (next_in c t) x → x ≢ child c.state.memory k.node (other k.side)
          apart x is at = true≢false (sym k.cut ∙ (ap (λ (z : ℕ). is_pure (edge (next_in c t).state.memory z k.side))
              (sym one.0) ∙ (ap (λ (f : Side). is_pure (edge (next_in c t).state.memory is.0 f))
              (sym (ap other one.1 ∙ twice_other k.side)) ∙ is.4)))
            where
              some_child : child (next_in c t).state.memory is.0 is.1 ≢ 0
              some_child z = let high = flag_leads_high L enough (next_in c t) after is.0 is.1 is.2 is.3 in
                  absurd (omega (arith, high, z))

              one : (is.0 ≡ k.node) × (is.1 ≡ other k.side)
              one = one_parent L enough (next_in c t) after is.0 k.node is.1 (other k.side) is.2 k.stays some_child
                  (is.5 ∙ (at ∙ sym k.same))

-- ---- over a run

pub tags_are_paid : OfEachOrderedRun TagsArePaid
unfolding after_in
tags_are_paid L enough turns keys =
    let all = paid_over L enough IsUncutLeaf tags_on (next_uncut L enough) turns keys (ordered L)
    (each_ordered L enough [] (λ i d below. absurd (omega (arith, below)))) []
    (λ x is. no_flags L enough x (is.0, is.1, is.2, is.3, is.5)) in omega (arith, all)

pub tags_are_paid_since : TagsArePaidSince
tags_are_paid_since L enough past turns keys =
    let before : All (λ t. HasKey t.1) past = first_keys past turns keys in
    let all = paid_over L enough IsUncutLeaf tags_on (next_uncut L enough) turns (later_keys past turns keys)
    (after_in (ordered L) past) (each_ordered L enough past before)
    (pending (after_in (ordered L) past) L.workers)
    (λ x is. covered L enough past before x (is.0, is.1, is.2, is.3, is.5)) in
    let few = few_pending (after_in (ordered L) past) L.workers in
    omega (arith, all, few)
