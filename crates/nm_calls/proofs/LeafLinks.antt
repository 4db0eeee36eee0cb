-- Each reached leaf but the fixed ones was linked or swapped in, and nobody has had it in hands since.
use Rattle.std.proofs.Common.{◌≡◌, ◌⊎◌, inl, inr, ℕ, ◌+◌, ◌<◌, ◌≤◌, ◌==◌, ◌&&◌, ◌||◌, not, Bool, true, false, cond, List, [], ◌∷◌, ◌++◌, length, refl, sym, ap, subst, ◌∙◌, append-nil, append_assoc, eq-eqb, true≢false, arith}
use Rattle.std.specs.Prelude.{All, None, Some, Option, Ok, is_some}
use Rattle.std.proofs.lemmas.Bool.{and_parts, cases_lt, eqb-true}
use Rattle.std.proofs.lemmas.List.{length-append}
use Rattle.nm_edge.specs.Keys.{IsKey}
use Rattle.nm_edge.specs.Edges.{Edge, is_to, other, to}
use Rattle.nm_edge.specs.Layouts.{Layout, IsLayout}
use Rattle.nm_edge.specs.declared.edge.Side.{Side}
use Rattle.nm_edge.specs.declared.edge.Side.TheVariants.{Left, Right}
use Rattle.nm_edge.specs.declared.node.NodeId.{NodeId}
use Rattle.nm_model.specs.declared.event.Event.{Event}
use Rattle.nm_model.specs.declared.event.Event.TheVariants.{Link, Swap}
use Rattle.nm_model.specs.declared.memory.Node.{Node}
use Rattle.nm_model.specs.declared.reply.Refused.{Refused}
use Rattle.nm_model.specs.declared.reply.Reply.{Reply}
use Rattle.nm_model.specs.declared.reply.Reply.TheVariants.{Cut, Linked, Lost}
use Rattle.nm_model.specs.Knowledge.{Knowledge, is_private}
use Rattle.nm_model.specs.Learning.{learn}
use Rattle.nm_model.specs.Maps.{get, without}
use Rattle.nm_model.specs.Memory.{Memory, child, edge, is_leaf, named, node, opening, put_edge}
use Rattle.nm_model.specs.Ordered.{Configuration, HasKey, applied_in, ordered, after_in, next_in, outcome_in, refused_in, trace_in}
use Rattle.nm_model.specs.Paths.{Reached, follow}
use Rattle.nm_laws.proofs.Trees.{follow_none}
use Rattle.nm_model.specs.Runs.{State, of, reply_of, start}
use Rattle.nm_model.specs.Step.{node_linked, reply}
use Rattle.nm_model.proofs.Tables.{get-without, ascends-without}
use Rattle.nm_laws.proofs.Configurations.{after_in-append, allowed_by_state, allowed_next, allowed_outcome, refused_next}
use Rattle.nm_laws.proofs.KnownBirths.{written_same}
use Rattle.nm_laws.proofs.Learned.{learn_linked, learn_swapped}
use Rattle.nm_laws.proofs.Reachable.{layout_kept}
use Rattle.nm_laws.proofs.Steps.{Allowed, allowed}
use Rattle.nm_order.specs.Logs.{is_leaver}
use Rattle.nm_order.proofs.EdgeOrigins.{EdgeOrigin}
use Rattle.nm_order.proofs.EdgeOrigins.EdgeOrigin.{WasThere, IsFlaggedNow, LeadsToNew, LeadsNowhere}
use Rattle.nm_order.proofs.FlaggedNodes.{memory_is}
use Rattle.nm_order.proofs.OrderedLaws.{IsOrdered, each_ordered, law_of_state, null_start, ordered_next}
use Rattle.nm_order.proofs.OrderedMoments.{Lasting, lasting}
use Rattle.nm_order.proofs.PartsOfRuns.{partaking}
use Rattle.nm_order.proofs.RealTime.{begins_with}
use Rattle.nm_order.proofs.RunExchanges.{first_keys}
use Rattle.nm_order.proofs.AnswersSince.{later_keys}
use Rattle.nm_order.proofs.SetChanges.{turn_lasts}
use Rattle.nm_order.proofs.TotalsOfRuns.{empty_first}
use Rattle.nm_order.proofs.TurnEdges.{LastEdge, last_edge, nothing_below, step_down, turn_origin}
use Rattle.nm_steps.specs.Rules.{new_leaf}
use Rattle.nm_steps.proofs.LinkedValues.{NobodyHoldsUntil}
use Rattle.nm_walks.proofs.Looks.{enough}
use Rattle.nm_calls.proofs.KeptLeaves.{reached_unheld}
use Rattle.nm_calls.proofs.ReachedNodes.{put_birth}
use Rattle.nm_calls.proofs.LinkedLeaves.{far_is_high, new_leads_to_far, words_then}
use Rattle.nm_calls.proofs.WonLinks.{link}
use Rattle.nm_theorem.proofs.WrittenWords.{run_words}
use Rattle.nm_order.proofs.WalksOfRuns.{trace_in-append}
use Rattle.nm_model.specs.Headline.{words_after}
use Rattle.nm_model.specs.declared.trace.Turn.{Turn}

-- a reached leaf that is none of the fixed ones, by its slot or by its key
pub record IsUserLeaf (m : Memory) (s : ℕ) : Type 0 where
  pub reached : Reached m s
  pub leaf : is_leaf (node m s) ≡ true
  pub high : (6 ≤ s) ⊎ IsKey (node m s).key

abbrev node_at : Memory → ℕ → Node
node_at m x = node m x

-- the event, with this reply, is a link that was won, of this slot as the new leaf
pub record ByLink (k : Knowledge) (e : Event) (r : Reply) (s : ℕ) : Type 0 where
  pub parent : ℕ
  pub side : Side
  pub old : ℕ
  pub new : ℕ
  pub node : NodeId
  pub is : e ≡ Link parent side old new
  pub replied : r ≡ Linked node
  pub leaf : new_leaf k old new ≡ s

-- it is a swap that was won, which put this slot in the place of another leaf
pub record BySwap (e : Event) (r : Reply) (s : ℕ) : Type 0 where
  pub parent : ℕ
  pub side : Side
  pub old : ℕ
  pub nodes : List NodeId
  pub is : e ≡ Swap parent side old s
  pub replied : r ≡ Cut nodes

-- after these events the slot is one that a worker put into the tree as a leaf, and nobody has had it in
-- hands since. It has the birth that it had right before that
pub record WasPutIn (L : Layout) (events : List (ℕ × Event)) (s : ℕ) : Type 0 where
  pub before : List (ℕ × Event)
  pub since : List (ℕ × Event)
  pub worker : ℕ
  pub event : Event
  pub reply : Reply
  pub are : events ≡ before ++ (worker, event) ∷ since
  pub won : outcome_in (after_in (ordered L) before) (worker, event) ≡ Ok reply
  pub way : ByLink (of (after_in (ordered L) before).state worker) event reply s ⊎ BySwap event reply s
  pub below : worker < L.workers
  pub born : (node_at (after_in (ordered L) before).state.memory s).birth
      ≡ (node_at (after_in (ordered L) events).state.memory s).birth
  pub free : NobodyHoldsUntil L events (length before + 1) (length events + 1) s

-- ---- a slot that a turn has put into the tree

null_child : (m : Memory) (s : ℕ) → is_leaf (node m s) ≡ true → (d : Side) → child m s d ≡ 0
null_child m s leaf Left = eqb-true (node m s).left.slot 0
    (and_parts ((node m s).left.slot == 0) ((node m s).right.slot == 0) leaf).0
null_child m s leaf Right = eqb-true (node m s).right.slot 0
    (and_parts ((node m s).left.slot == 0) ((node m s).right.slot == 0) leaf).1

-- the turn is a link that finds the edge which it is to exchange
pub record IsFoundLink (c : Configuration) (t : ℕ × Event) : Type 0 where
  pub parent : ℕ
  pub side : Side
  pub old : ℕ
  pub new : ℕ
  pub is : t.1 ≡ Link parent side old new
  pub unmarked : edge c.state.memory parent side ≡ to old

-- the turn is a swap that finds the edge which it is to exchange
pub record IsFoundSwap (c : Configuration) (t : ℕ × Event) : Type 0 where
  pub parent : ℕ
  pub side : Side
  pub old : ℕ
  pub new : ℕ
  pub is : t.1 ≡ Swap parent side old new
  pub unmarked : edge c.state.memory parent side ≡ to old

module _ (L : Layout) (fits : IsLayout L) (c : Configuration) (t : ℕ × Event) (has : HasKey t.1) (o : IsOrdered L c)
    (s : ℕ) where
  next_ordered : IsOrdered L (next_in c t)
  next_ordered = ordered_next L (enough L fits) c t has o

  -- a slot that is reached then was reached before, or it was its worker's and the turn is a link or a
  -- swap
  abbrev pub WasOrIsPut : Type 0
  WasOrIsPut = Reached c.state.memory s ⊎ ((is_private (of c.state t.0) s ≡ true) × (IsFoundLink c t ⊎ IsFoundSwap c t))

  pub reached_or_put : Reached (next_in c t).state.memory s → WasOrIsPut
  reached_or_put r = by (last_edge (next_in c t).state.memory
      (nothing_below L (enough L fits) (next_in c t) t next_ordered) s r)
    where
      at_root : s ≡ 1 → Reached c.state.memory s
      at_root is = record { path = []; ends = sym is; is_slot = λ z. absurd (omega (arith, is, z)) }

      by : (s ≡ 1) ⊎ LastEdge (next_in c t).state.memory s → WasOrIsPut
      by (inl is) = inl (at_root is)
      by (inr e) = on (turn_origin L (enough L fits) c t o e.parent e.reached e.side)
        where
          on : EdgeOrigin c.state t.0 t.1 (next_in c t).state.memory e.parent e.side → WasOrIsPut
          on (WasThere p d reached leads flag) = inl (subst (Reached c.state.memory) (leads ∙ e.leads)
              (step_down c.state.memory p d reached (λ z. r.is_slot (sym e.leads ∙ (sym leads ∙ z)))))
          on (IsFlaggedNow leaf is reached unmarked marked) =
              let same : child c.state.memory e.parent e.side ≡ s = ap (λ (k : Edge). k.slot) unmarked
              ∙ (sym (ap (λ (k : Edge). k.slot) marked) ∙ e.leads) in
              inl (subst (Reached c.state.memory) same (step_down c.state.memory e.parent e.side reached
              (λ z. r.is_slot (sym same ∙ z))))
          on (LeadsToNew p d leaf new (inr is) unmarked held flag) =
              inr (
                ap (is_private (of c.state t.0)) (sym e.leads) ∙ held,
                inr (record { parent = p; side = d; old = leaf; new = new; is = is; unmarked = unmarked }),
              )
          on (LeadsToNew p d leaf new (inl is) unmarked held flag) =
              inr (
                ap (is_private (of c.state t.0)) (sym e.leads) ∙ held,
                inl (record { parent = p; side = d; old = leaf; new = new; is = is; unmarked = unmarked }),
              )
          on (LeadsNowhere none) = absurd (r.is_slot (sym e.leads ∙ none))

  -- the turn was not refused, because it put in a slot that was in hands
  accepted : Reached (next_in c t).state.memory s → is_private (of c.state t.0) s ≡ true → refused_in c t.0 t.1 ≡ None
  accepted r held = go (refused_in c t.0 t.1) refl
    where
      go : (q : Option Refused) → refused_in c t.0 t.1 ≡ q → q ≡ None
      go None is = refl
      go (Some x) is = absurd (true≢false (sym held
          ∙ reached_unheld L (enough L fits) c o s
          (subst (λ (d : Configuration). Reached d.state.memory s) (refused_next c t x is) r) t.0))

  -- the link is won: it put in a slot that was in hands
  module _ (r : Reached (next_in c t).state.memory s) (held : is_private (of c.state t.0) s ≡ true)
      (f : IsFoundLink c t) where
    abbrev k : Knowledge
    k = of c.state t.0

    abbrev n : NodeId
    n = node_linked k f.new

    found : is_to (edge c.state.memory f.parent f.side) f.old ≡ true
    found = ap (λ (e : Edge). is_to e f.old) f.unmarked
        ∙ ap (λ (b : Bool). b && (not false && not false)) (eq-eqb f.old f.old refl)

    replied : reply_of c.state t.0 (Link f.parent f.side f.old f.new) ≡ Linked n
    unfolding reply
    replied = ap (λ (b : Bool). cond b (Linked (node_linked k f.new)) (Lost (edge c.state.memory f.parent f.side)))
        found

    link_accepted : refused_in c t.0 (Link f.parent f.side f.old f.new) ≡ None
    link_accepted = ap (refused_in c t.0) (sym f.is) ∙ accepted r held

    link_won : outcome_in c (t.0, Link f.parent f.side f.old f.new) ≡ Ok (Linked n)
    link_won = allowed_outcome c (t.0, Link f.parent f.side f.old f.new) link_accepted ∙ ap Ok replied

    link_allowed : Allowed c.state t.0 (Link f.parent f.side f.old f.new)
    link_allowed = allowed c.state t.0 (Link f.parent f.side f.old f.new)
        (allowed_by_state c t.0 (Link f.parent f.side f.old f.new) link_accepted)

    -- what the worker has in hands after it
    left : of (next_in c t).state t.0 ≡ learn t.0 k (Link f.parent f.side f.old f.new) (Linked n)
    unfolding applied_in
    left =
        ap (λ (e : Event). of (next_in c (t.0, e)).state t.0) f.is
        ∙ (ap (λ (d : Configuration). of d.state t.0)
        (allowed_next c (t.0, Link f.parent f.side f.old f.new) link_accepted)
        ∙ (partaking c.state (law_of_state L (enough L fits) c o).1.staffed t.0 t.0
        (Link f.parent f.side f.old f.new) link_allowed
        (ap (λ (b : Bool). b || is_leaver t.0 (Link f.parent f.side f.old f.new)) (eq-eqb t.0 t.0 refl))
        ∙ ap (learn t.0 k (Link f.parent f.side f.old f.new)) replied))

    let_go : is_some (get (without (without k.drafts f.new) (new_leaf k f.old f.new)) s) ≡ false
    let_go = sym (ap (λ (x : Knowledge). is_private x s) (left ∙ learn_linked t.0 k f.parent f.side f.old f.new n))
        ∙ reached_unheld L (enough L fits) (next_in c t) next_ordered s r t.0

    -- so the slot is the new leaf or the new node
    new_or_leaf : (s ≡ new_leaf k f.old f.new) ⊎ (s ≡ f.new)
    new_or_leaf = go (s == new_leaf k f.old f.new) refl (s == f.new) refl
      where
        drafts : (s == new_leaf k f.old f.new) ≡ false → (s == f.new) ≡ false
            → get (without (without k.drafts f.new) (new_leaf k f.old f.new)) s ≡ get k.drafts s
        drafts p q =
            get-without (without k.drafts f.new) (new_leaf k f.old f.new) s
            (ascends-without k.drafts f.new ((law_of_state L (enough L fits) c o).1.drafts t.0))
            ∙ ((λ i. cond (p i) None (get (without k.drafts f.new) s))
            ∙ (get-without k.drafts f.new s ((law_of_state L (enough L fits) c o).1.drafts t.0)
            ∙ (λ i. cond (q i) None (get k.drafts s))))

        go : (a : Bool) → (s == new_leaf k f.old f.new) ≡ a → (b : Bool) → (s == f.new) ≡ b
            → (s ≡ new_leaf k f.old f.new) ⊎ (s ≡ f.new)
        go true p b q = inl (eqb-true s (new_leaf k f.old f.new) p)
        go false p true q = inr (eqb-true s f.new q)
        go false p false q = absurd (true≢false (sym held ∙ (sym (ap is_some (drafts p q)) ∙ let_go)))

  -- the swap is won: it put in the slot that was in hands
  module _ (r : Reached (next_in c t).state.memory s) (held : is_private (of c.state t.0) s ≡ true)
      (f : IsFoundSwap c t) where
    abbrev k' : Knowledge
    k' = of c.state t.0

    abbrev swap : Event
    swap = Swap f.parent f.side f.old f.new

    abbrev cut : List NodeId
    cut = named c.state.memory f.old ∷ []

    swap_found : is_to (edge c.state.memory f.parent f.side) f.old ≡ true
    swap_found = ap (λ (e : Edge). is_to e f.old) f.unmarked
        ∙ ap (λ (b : Bool). b && (not false && not false)) (eq-eqb f.old f.old refl)

    swap_replied : reply_of c.state t.0 swap ≡ Cut cut
    unfolding reply
    swap_replied = ap (λ (b : Bool). cond b (Cut cut) (Lost (edge c.state.memory f.parent f.side))) swap_found

    swap_accepted : refused_in c t.0 swap ≡ None
    swap_accepted = ap (refused_in c t.0) (sym f.is) ∙ accepted r held

    swap_won : outcome_in c (t.0, swap) ≡ Ok (Cut cut)
    swap_won = allowed_outcome c (t.0, swap) swap_accepted ∙ ap Ok swap_replied

    swap_allowed : Allowed c.state t.0 swap
    swap_allowed = allowed c.state t.0 swap (allowed_by_state c t.0 swap swap_accepted)

    -- what the worker has in hands after it
    swap_left : of (next_in c t).state t.0 ≡ learn t.0 k' swap (Cut cut)
    unfolding applied_in
    swap_left =
        ap (λ (e : Event). of (next_in c (t.0, e)).state t.0) f.is
        ∙ (ap (λ (d : Configuration). of d.state t.0) (allowed_next c (t.0, swap) swap_accepted)
        ∙ (partaking c.state (law_of_state L (enough L fits) c o).1.staffed t.0 t.0 swap swap_allowed
        (ap (λ (b : Bool). b || is_leaver t.0 swap) (eq-eqb t.0 t.0 refl))
        ∙ ap (learn t.0 k' swap) swap_replied))

    swap_let_go : is_some (get (without k'.drafts f.new) s) ≡ false
    swap_let_go = sym (ap (λ (x : Knowledge). is_private x s)
        (swap_left ∙ learn_swapped t.0 k' f.parent f.side f.old f.new cut))
        ∙ reached_unheld L (enough L fits) (next_in c t) next_ordered s r t.0

    -- so the slot is the new leaf
    pub is_new : f.new ≡ s
    is_new = go (s == f.new) refl
      where
        go : (b : Bool) → (s == f.new) ≡ b → f.new ≡ s
        go true q = sym (eqb-true s f.new q)
        go false q = absurd (true≢false (sym held ∙
            (sym (ap is_some (get-without k'.drafts f.new s ((law_of_state L (enough L fits) c o).1.drafts t.0)
            ∙ (λ i. cond (q i) None (get k'.drafts s)))) ∙ swap_let_go)))

-- ---- the fixed nodes

-- in the empty tree each path ends at a fixed node or nowhere
fixed_path : (L : Layout) (path : List Side) → follow (child (opening L)) 1 path ≤ 5
fixed_path L [] = omega arith
fixed_path L (Left ∷ []) = omega arith
fixed_path L (Right ∷ []) = omega arith
fixed_path L (Left ∷ Left ∷ []) = omega arith
fixed_path L (Left ∷ Right ∷ []) = omega arith
fixed_path L (Right ∷ Left ∷ q) = let none = follow_none (child (opening L)) (null_start L) q in omega (arith, none)
fixed_path L (Right ∷ Right ∷ q) = let none = follow_none (child (opening L)) (null_start L) q in omega (arith, none)
fixed_path L (Left ∷ Left ∷ Left ∷ q) = let none = follow_none (child (opening L)) (null_start L) q in
    omega (arith, none)
fixed_path L (Left ∷ Left ∷ Right ∷ q) = let none = follow_none (child (opening L)) (null_start L) q in
    omega (arith, none)
fixed_path L (Left ∷ Right ∷ Left ∷ q) = let none = follow_none (child (opening L)) (null_start L) q in
    omega (arith, none)
fixed_path L (Left ∷ Right ∷ Right ∷ q) = let none = follow_none (child (opening L)) (null_start L) q in
    omega (arith, none)

-- ---- the events of a run

-- a slot is in nobody's hands at the last moment of a run
none_at_end : (L : Layout) (before : List (ℕ × Event)) (t : ℕ × Event) (s : ℕ)
    → ((w : ℕ) → is_private (of (after_in (ordered L) (before ++ t ∷ [])).state w) s ≡ false)
    → NobodyHoldsUntil L (before ++ t ∷ []) (length before + 1) (length (before ++ t ∷ []) + 1) s
none_at_end L before t s free now since is least most w =
    let long = length-append before (t ∷ []) in
    let part = begins_with (before ++ t ∷ []) [] now since (append-nil (before ++ t ∷ []) ∙ is)
    (omega (arith, least, long)) in
    let long' = ap (λ (l : List (ℕ × Event)). length l) part.1 ∙ length-append (before ++ t ∷ []) part.0 in
    ap (λ (ts : List (ℕ × Event)). is_private (of (after_in (ordered L) ts).state w) s)
    (part.1 ∙ (ap (λ (ts : List (ℕ × Event)). (before ++ t ∷ []) ++ ts)
    (none part.0 (omega (arith, long, long', most))) ∙ append-nil (before ++ t ∷ [])))
    ∙ free w
  where
    none : (ts : List (ℕ × Event)) → length ts ≡ 0 → ts ≡ []
    none [] is = refl
    none (x ∷ xs) is = absurd (omega (arith, is))

-- a moment more
free_longer : (L : Layout) (events : List (ℕ × Event)) (t : ℕ × Event) (m s : ℕ)
    → NobodyHoldsUntil L events m (length events + 1) s
    → ((w : ℕ) → is_private (of (after_in (ordered L) (events ++ t ∷ [])).state w) s ≡ false)
    → NobodyHoldsUntil L (events ++ t ∷ []) m (length (events ++ t ∷ []) + 1) s
free_longer L events t m s free last now since is least most w = by (cases_lt (length events) (length now))
  where
    long : length (events ++ t ∷ []) ≡ length events + 1
    long = length-append events (t ∷ [])

    by : (length events < length now) ⊎ (length now ≤ length events)
        → is_private (of (after_in (ordered L) now).state w) s ≡ false
    by (inl late) = none_at_end L events t s last now since is (omega (arith, late)) most w
    by (inr early) = let part = begins_with now since events (t ∷ []) (sym is) early in
        free now part.0 part.1 least (omega (arith, early)) w

module _ (L : Layout) (fits : IsLayout L) where
  abbrev memory_after : List (ℕ × Event) → Memory
  memory_after ts = (after_in (ordered L) ts).state.memory

  -- one event more
  module _ (before : List (ℕ × Event)) (t : ℕ × Event) (keys : All (λ t. HasKey t.1) (before ++ t ∷ [])) where
    abbrev c : Configuration
    c = after_in (ordered L) before

    first : All (λ t. HasKey t.1) before
    first = first_keys before (t ∷ []) keys

    has : HasKey t.1
    has = later_keys before (t ∷ []) keys 0 t (omega arith)

    o : IsOrdered L c
    o = each_ordered L (enough L fits) before first

    now_is : after_in (ordered L) (before ++ t ∷ []) ≡ next_in c t
    unfolding after_in
    now_is = after_in-append (ordered L) before (t ∷ [])

    unheld : (s : ℕ) → Reached (memory_after (before ++ t ∷ [])) s → (w : ℕ)
        → is_private (of (after_in (ordered L) (before ++ t ∷ [])).state w) s ≡ false
    unheld s r w = reached_unheld L (enough L fits) (after_in (ordered L) (before ++ t ∷ []))
        (each_ordered L (enough L fits) (before ++ t ∷ []) keys) s r w

    module _ (s : ℕ) (is : IsUserLeaf (memory_after (before ++ t ∷ [])) s) where
      r : Reached (next_in c t).state.memory s
      r = subst (λ (d : Configuration). Reached d.state.memory s) now_is is.reached

      lasts : Reached c.state.memory s → lasting (memory_after (before ++ t ∷ [])) s ≡ lasting c.state.memory s
      lasts was = ap (λ (d : Configuration). lasting d.state.memory s) now_is
          ∙ turn_lasts L (enough L fits) c t has o s was

      -- it was one before
      was_leaf : Reached c.state.memory s → IsUserLeaf c.state.memory s
      was_leaf was = record {
        reached = was;
        leaf = ap (λ (l : Lasting). l.leaf) (sym (lasts was)) ∙ is.leaf;
        high = subst (λ (k : ℕ). (6 ≤ s) ⊎ IsKey k) (ap (λ (l : Lasting). l.key) (lasts was)) is.high;
      }

      longer : Reached c.state.memory s → WasPutIn L before s → WasPutIn L (before ++ t ∷ []) s
      longer was l = record {
        before = l.before;
        since = l.since ++ t ∷ [];
        worker = l.worker;
        event = l.event;
        reply = l.reply;
        are = ap (λ (ts : List (ℕ × Event)). ts ++ t ∷ []) l.are
            ∙ append_assoc l.before ((l.worker, l.event) ∷ l.since) (t ∷ []);
        won = l.won;
        way = l.way;
        below = l.below;
        born = l.born ∙ sym (ap (λ (z : Lasting). z.birth) (lasts was));
        free = free_longer L before t (length l.before + 1) s l.free (unheld s is.reached);
      }

      workers : c.state.layout.workers ≡ L.workers
      workers = ap (λ (z : State). z.layout.workers) o.leads
          ∙ ap (λ (l : Layout). l.workers) (layout_kept (start L) o.events)

      -- it is swapped in now
      module _ (held : is_private (of c.state t.0) s ≡ true) (f : IsFoundSwap c t) where
        abbrev its_swap : Event
        its_swap = Swap f.parent f.side f.old f.new

        its_birth : (node_at (memory_after (before ++ t ∷ [])) s).birth ≡ (node_at c.state.memory s).birth
        unfolding applied_in
        its_birth =
            let l = law_of_state L (enough L fits) c o in
            ap (λ (d : Configuration). (node_at d.state.memory s).birth)
            (now_is ∙ (ap (λ (e : Event). next_in c (t.0, e)) f.is
            ∙ allowed_next c (t.0, its_swap) (swap_accepted L fits c t has o s r held f)))
            ∙ (ap (λ (m : Memory). (node_at m s).birth)
            (memory_is c.state l.0 l.1 t.0 its_swap (swap_allowed L fits c t has o s r held f))
            ∙ (written_same c.state.memory (of c.state t.0) t.0 its_swap s (λ y g v e i. cc)).birth)

        swapped : WasPutIn L (before ++ t ∷ []) s
        swapped = record {
          before = before;
          since = [];
          worker = t.0;
          event = its_swap;
          reply = Cut (named c.state.memory f.old ∷ []);
          are = λ i. before ++ (t.0, f.is i) ∷ [];
          won = swap_won L fits c t has o s r held f;
          way = inr (record {
            parent = f.parent;
            side = f.side;
            old = f.old;
            nodes = named c.state.memory f.old ∷ [];
            is = ap (Swap f.parent f.side f.old) (is_new L fits c t has o s r held f);
            replied = refl;
          });
          below = subst (λ (n : ℕ). t.0 < n) workers (swap_allowed L fits c t has o s r held f).worker;
          born = sym its_birth;
          free = none_at_end L before t s (unheld s is.reached);
        }

      -- it is linked now
      module _ (held : is_private (of c.state t.0) s ≡ true) (f : IsFoundLink c t) where
        won : outcome_in c (t.0, Link f.parent f.side f.old f.new) ≡ Ok (Linked (node_linked (of c.state t.0) f.new))
        won = link_won L fits c t has o s r held f

        abbrev side_of_leaf : Side
        side_of_leaf = other (link L fits before first t.0 f.parent f.side f.old f.new
            (node_linked (of c.state t.0) f.new) won).drafts.side

        abbrev turn : Turn
        turn = record {
          worker = t.0;
          event = Link f.parent f.side f.old f.new;
          outcome = Ok
              (Linked (node_linked (of c.state t.0) f.new));
        }

        turns_are : trace_in (ordered L) (before ++ t ∷ []) ≡ trace_in (ordered L) before ++ turn ∷ []
        unfolding trace_in
        turns_are = trace_in-append (ordered L) before (t ∷ [])
            ∙ (λ i. trace_in (ordered L) before ++ record {
              worker = t.0;
              event = f.is i;
              outcome = outcome_in c
                  (t.0, f.is i);
            } ∷ []) ∙ (λ i. trace_in (ordered L) before
            ++ record { worker = t.0; event = Link f.parent f.side f.old f.new; outcome = won i } ∷ [])

        linked_memory : memory_after (before ++ t ∷ []) ≡ put_edge c.state.memory f.parent f.side (to f.new)
        linked_memory = sym (run_words L fits true (before ++ t ∷ []))
            ∙ (ap (words_after L) turns_are ∙ words_then L fits before first t.0 f.parent f.side f.old f.new
            (node_linked (of c.state t.0) f.new) won)

        -- the new node is no leaf
        no_leaf : s ≡ f.new → ⊥
        no_leaf same =
            let leads = new_leads_to_far L fits before first t.0 f.parent f.side f.old f.new
            (node_linked (of c.state t.0) f.new) won in
            let high = far_is_high L fits before first t.0 f.parent f.side f.old f.new
            (node_linked (of c.state t.0) f.new) won in
            let null = null_child (memory_after (before ++ t ∷ [])) s is.leaf side_of_leaf in
            let led : child (memory_after (before ++ t ∷ [])) s side_of_leaf ≡ child
            (put_edge c.state.memory f.parent f.side (to f.new)) f.new side_of_leaf = λ i. child (linked_memory i)
            (same i) side_of_leaf in
            omega (arith, leads, high, null, led)

        linked : WasPutIn L (before ++ t ∷ []) s
        linked = record {
          before = before;
          since = [];
          worker = t.0;
          event = Link f.parent f.side f.old f.new;
          reply = Linked (node_linked (of c.state t.0) f.new);
          are = λ i. before ++ (t.0, f.is i) ∷ [];
          won = won;
          way = inl (record {
            parent = f.parent;
            side = f.side;
            old = f.old;
            new = f.new;
            node = node_linked (of c.state t.0) f.new;
            is = refl;
            replied = refl;
            leaf = by (new_or_leaf L fits c t has o s r held f);
          });
          below = subst (λ (n : ℕ). t.0 < n) workers (link_allowed L fits c t has o s r held f).worker;
          born = sym (ap (λ (m : Memory). (node_at m s).birth) linked_memory
              ∙ put_birth c.state.memory f.parent f.side (to f.new) s);
          free = none_at_end L before t s (unheld s is.reached);
        }
          where
            by : (s ≡ new_leaf (of c.state t.0) f.old f.new) ⊎ (s ≡ f.new) → new_leaf (of c.state t.0) f.old f.new ≡ s
            by (inl same) = sym same
            by (inr same) = absurd (no_leaf same)

      put_then : (IsUserLeaf c.state.memory s → WasPutIn L before s) → WasPutIn L (before ++ t ∷ []) s
      put_then known = by (reached_or_put L fits c t has o s r)
        where
          by : WasOrIsPut L fits c t has o s → WasPutIn L (before ++ t ∷ []) s
          by (inl was) = longer was (known (was_leaf was))
          by (inr (held, inl f)) = linked held f
          by (inr (held, inr f)) = swapped held f

  -- THE LAW
  from_there : (before rest : List (ℕ × Event)) → All (λ t. HasKey t.1) (before ++ rest) → (s : ℕ)
      → ((x : ℕ) → IsUserLeaf (memory_after before) x → WasPutIn L before x)
      → IsUserLeaf (memory_after (before ++ rest)) s → WasPutIn L (before ++ rest) s
  from_there before [] keys s known is = subst (λ (ts : List (ℕ × Event)). WasPutIn L ts s)
      (sym (append-nil before))
      (known s (subst (λ (ts : List (ℕ × Event)). IsUserLeaf (memory_after ts) s) (append-nil before) is))
  from_there before (t ∷ ts) keys s known is =
      let whole : (before ++ t ∷ []) ++ ts ≡ before ++ t ∷ ts = append_assoc before (t ∷ []) ts in
      let keys' : All (λ t. HasKey t.1) ((before ++ t ∷ []) ++ ts) = subst
      (λ (l : List (ℕ × Event)). All (λ t. HasKey t.1) l) (sym whole) keys in
      subst (λ (l : List (ℕ × Event)). WasPutIn L l s) whole
      (from_there (before ++ t ∷ []) ts keys' s
      (λ x there. put_then before t (first_keys (before ++ t ∷ []) ts keys') x there (known x))
      (subst (λ (l : List (ℕ × Event)). IsUserLeaf (memory_after l) s) (sym whole) is))

  pub was_put_in : (events : List (ℕ × Event)) → All (λ t. HasKey t.1) events → (s : ℕ)
      → IsUserLeaf (memory_after events) s → WasPutIn L events s
  unfolding after_in
  was_put_in events keys s is = from_there [] events keys s nothing is
    where
      nothing : (x : ℕ) → IsUserLeaf (memory_after []) x → WasPutIn L [] x
      nothing x there = by there.high
        where
          by : (6 ≤ x) ⊎ IsKey (node (opening L) x).key → WasPutIn L [] x
          by (inl high) = let low = fixed_path L there.reached.path in let ends = there.reached.ends in
              absurd (omega (arith, high, low, ends))
          by (inr is_key) = absurd (empty_first L (node (opening L) x).key is_key
              (record { slot = x; reached = there.reached; leaf = there.leaf; has_key = refl }))
