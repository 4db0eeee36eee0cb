-- The new leaf of a won link: it is reached right after the link, and has the key of the call.
use Rattle.std.proofs.Common.{◌≡◌, ◌≢◌, ◌⊎◌, inl, inr, ℕ, ◌==◌, ◌≤◌, Bool, true, cond, List, [], ◌∷◌, ◌++◌, refl, sym, ap, subst, ◌∙◌, arith}
use Rattle.std.specs.Prelude.{All, None, Some, Option, Ok}
use Rattle.std.proofs.lemmas.Bool.{and_from, eq-eqb}
use Rattle.nm_edge.specs.Edges.{other, to}
use Rattle.nm_edge.specs.Layouts.{Layout, IsLayout}
use Rattle.nm_edge.specs.declared.edge.Side.{Side}
use Rattle.nm_edge.specs.declared.edge.Side.TheVariants.{Left, Right}
use Rattle.nm_edge.specs.declared.node.NodeId.{NodeId}
use Rattle.nm_model.specs.declared.event.Event.{Event}
use Rattle.nm_model.specs.declared.event.Event.TheVariants.{Link}
use Rattle.nm_model.specs.declared.event.Op.TheVariants.{Insert}
use Rattle.nm_model.specs.declared.reply.Reply.TheVariants.{Linked}
use Rattle.nm_model.specs.declared.trace.Turn.{Turn}
use Rattle.nm_model.specs.Headline.{after_turn, words_after, words_from}
use Rattle.nm_model.specs.Memory.{Memory, child, is_leaf, node, opening, put_edge}
use Rattle.nm_model.specs.Ordered.{Configuration, HasKey, ordered, after_in, disorder, disorder_among, disorder_in, outcome_in, refused_in, search_of, trace_in}
use Rattle.nm_model.specs.Paths.{Reached, follow}
use Rattle.nm_model.specs.Runs.{of, refused}
use Rattle.nm_model.specs.Searches.{Search}
use Rattle.nm_model.specs.Step.{write}
use Rattle.nm_laws.proofs.KnownBirths.{each_birth_stands}
use Rattle.nm_laws.proofs.Trees.{Children, follow-append, no_longer, not_taken, rest_after, taken}
use Rattle.nm_order.specs.Intervals.{IsCalled, key}
use Rattle.nm_order.proofs.OrderedLaws.{IsOrdered, neither}
use Rattle.nm_order.proofs.OrderedSteps.{LinkOfCall, link_of_call}
use Rattle.nm_order.proofs.OrderedTrees.{Grafting, one_or_other, unless_at}
use Rattle.nm_order.proofs.RunExchanges.{first_keys}
use Rattle.nm_order.proofs.TreeChanges.{WonLink, same_keys}
use Rattle.nm_theorem.proofs.Runs.{Head, Parts, head_of, parts_of}
use Rattle.nm_theorem.proofs.WrittenWords.{run_words}
use Rattle.nm_steps.specs.Rules.{answered_turn}
use Rattle.nm_walks.proofs.Looks.{enough}
use Rattle.nm_calls.proofs.WonLinks.{found, graft, hold, is_ordered, law, link, unrefused}

words_push : (m : Memory) (ts : List Turn) (t : Turn) → words_from m (ts ++ t ∷ []) ≡ after_turn (words_from m ts) t
words_push m [] t = refl
words_push m (u ∷ ts) t = words_push (after_turn m u) ts t

-- ---- the path to a new leaf

module _ (c c' : Children) (p : ℕ) (d : Side) (leaf new far : ℕ) (dl : Side)
    (g : Grafting c c' p d leaf new far dl) where
  straight_to : rest_after c p d 1 g.front ≡ None
  straight_to = go (rest_after c p d 1 g.front) refl
    where
      go : (o : Option (List Side)) → rest_after c p d 1 g.front ≡ o → o ≡ None
      go None h = refl
      go (Some r) h =
          let t = taken c c' p d new g.exchanged 1 g.front r h in
          let same : g.front ≡ t.front = g.alone g.front t.front (λ z. g.is_slot (sym g.at_front ∙ z))
          (g.at_front ∙ sym t.comes) in
          absurd (no_longer d g.front r (t.is ∙ ap (λ (y : List Side). y ++ d ∷ r) (sym same)))

  at_parent : follow c' 1 g.front ≡ p
  at_parent = not_taken c c' p d new g.exchanged 1 g.front straight_to ∙ g.at_front

  to_far : follow c' 1 (g.front ++ d ∷ other dl ∷ []) ≡ far
  to_far =
      follow-append c' 1 g.front (d ∷ other dl ∷ [])
      ∙ (ap (λ (y : ℕ). c' (c' y d) (other dl)) at_parent
      ∙ (ap (λ (y : ℕ). c' y (other dl)) g.exchanged.here
      ∙ (unless_at c c' p d new new (other dl) g.exchanged (λ i. g.off_new g.front (g.at_front ∙ sym i)) ∙ g.over_far)))

  far_null : (f : Side) → c' far f ≡ 0
  far_null f = unless_at c c' p d new far f g.exchanged (λ i. g.off_far g.front (g.at_front ∙ sym i)) ∙ g.far_null f

-- ---- a won link among the turns of a run

-- the events before it, and the link itself
pub record LinkAt (L : Layout) (events : List (ℕ × Event)) (before : List Turn) (w p : ℕ) (side : Side) (old new : ℕ)
    (n : NodeId) : Type 0 where
  pub early : List (ℕ × Event)
  pub others : List (ℕ × Event)
  pub whole : events ≡ early ++ (w, Link p side old new) ∷ others
  pub first_is : before ≡ trace_in (ordered L) early
  pub keyed : All (λ t. HasKey t.1) early
  pub won : outcome_in (after_in (ordered L) early) (w, Link p side old new) ≡ Ok (Linked n)

pub link_at : (L : Layout) (events : List (ℕ × Event)) → All (λ t. HasKey t.1) events
    → (before since : List Turn) (w p : ℕ) (side : Side) (old new : ℕ) (n : NodeId)
    → trace_in (ordered L) events ≡ before ++ answered_turn w (Link p side old new) (Linked n) ∷ since
    → LinkAt L events before w p side old new n
link_at L events keys before since w p side old new n is =
    let q : Parts (ordered L) events before (turn ∷ since) = parts_of (ordered L) events before (turn ∷ since) is in
    let h : Head (after_in (ordered L) q.early) q.late turn since = head_of (after_in (ordered L) q.early) q.late
    turn since (sym q.rest_is) in
    let event_is : h.event ≡ (w, Link p side old new) = λ i. ((sym h.turn_is i).worker, (sym h.turn_is i).event) in
    record {
      early = q.early;
      others = h.others;
      whole = q.all ∙ (ap (λ (ts : List (ℕ × Event)). q.early ++ ts) h.all
          ∙ ap (λ (u : ℕ × Event). q.early ++ u ∷ h.others) event_is);
      first_is = q.first_is;
      keyed = first_keys q.early q.late (subst (λ (ts : List (ℕ × Event)). All (λ t. HasKey t.1) ts) q.all keys);
      won = ap (outcome_in (after_in (ordered L) q.early)) (sym event_is)
          ∙ ap (λ (u : Turn). u.outcome) (sym h.turn_is);
    }
  where
    turn : Turn
    turn = answered_turn w (Link p side old new) (Linked n)

-- ---- a won link

module _ (L : Layout) (fits : IsLayout L) (events : List (ℕ × Event)) (keys : All (λ t. HasKey t.1) events)
    (w parent : ℕ) (side : Side) (old new : ℕ) (n : NodeId)
    (won : outcome_in (after_in (ordered L) events) (w, Link parent side old new) ≡ Ok (Linked n)) where
  abbrev c : Configuration
  c = after_in (ordered L) events

  abbrev l : WonLink c.state (hold L fits events keys w parent side old new n won)
      (law L fits events keys w parent side old new n won) w parent side old new
  l = link L fits events keys w parent side old new n won

  abbrev far : ℕ
  far = l.drafts.far

  abbrev after : Memory
  after = put_edge c.state.memory parent side (to new)

  abbrev g : Grafting (child c.state.memory) (child after) parent side old new far l.drafts.side
  g = graft L fits events keys w parent side old new n won

  pub words_then : words_after L (trace_in (ordered L) events
      ++ answered_turn w (Link parent side old new) (Linked n) ∷ []) ≡ after
  words_then = words_push (opening L) (trace_in (ordered L) events)
      (answered_turn w (Link parent side old new) (Linked n))
      ∙ ap (λ (m : Memory). put_edge m parent side (to new)) (run_words L fits true events)

  pub far_reached : Reached after far
  far_reached = record {
    path = g.front ++ side ∷ other l.drafts.side ∷ [];
    ends = to_far (child c.state.memory) (child after) parent side old new far l.drafts.side g;
    is_slot = λ none'.
        let low = ((law L fits events keys w parent side old new n won).tree.privates w far l.link.far_own).0 in
        omega (arith, low, none');
  }

  -- the new node leads to the new leaf, which is not the node that was there
  pub new_leads_to_far : child after new (other l.drafts.side) ≡ far
  new_leads_to_far = unless_at (child c.state.memory) (child after) parent side new new (other l.drafts.side)
      g.exchanged (λ i. g.off_new g.front (g.at_front ∙ sym i)) ∙ g.over_far

  pub far_is_high : 6 ≤ far
  far_is_high = ((law L fits events keys w parent side old new n won).tree.privates w far l.link.far_own).0

  pub far_is_other : far ≢ old
  far_is_other same = g.off_far (g.front ++ side ∷ [])
      (follow-append (child c.state.memory) 1 g.front (side ∷ [])
      ∙ (ap (λ (y : ℕ). child c.state.memory y side) g.at_front ∙ (g.leads ∙ sym same)))

  pub far_was_child : child c.state.memory new (other l.drafts.side) ≡ far
  far_was_child = g.over_far

  null_after : (f : Side) → child after far f ≡ 0
  null_after f = far_null (child c.state.memory) (child after) parent side old new far l.drafts.side g f

  pub far_is_leaf : is_leaf (node after far) ≡ true
  far_is_leaf = and_from ((node after far).left.slot == 0) ((node after far).right.slot == 0)
      (eq-eqb (node after far).left.slot 0 (null_after Left)) (eq-eqb (node after far).right.slot 0 (null_after Right))

  pub key_stays : (x : ℕ) → key after x ≡ key c.state.memory x
  unfolding write
  key_stays x = subst (λ (b : Bool). key (cond b after c.state.memory) x ≡ key c.state.memory x)
      (found L fits events keys w parent side old new n won)
      (same_keys c.state (hold L fits events keys w parent side old new n won)
      (law L fits events keys w parent side old new n won) w (Link parent side old new) (λ y f v i. cc) x)

  -- the child of the new node that is not the node which was there
  pub far_child : (s : Side) → child c.state.memory new s ≢ old → child c.state.memory new s ≡ far
  far_child s fresh = by (one_or_other s l.drafts.side)
    where
      by : (s ≡ l.drafts.side) ⊎ (s ≡ other l.drafts.side) → child c.state.memory new s ≡ far
      by (inl same) = absurd (fresh (ap (λ (f : Side). child c.state.memory new f) same ∙ g.over_leaf))
      by (inr apart) = ap (λ (f : Side). child c.state.memory new f) apart ∙ g.over_far

  -- ---- the key of the call

  abbrev o : IsOrdered L c
  o = is_ordered L fits events keys w parent side old new n won

  in_order : disorder c.state.layout (of c.state w) (search_of o.searches w) (Link parent side old new) ≡ None
  unfolding refused_in
  in_order =
      ap (λ (ss : Option (List Search)). disorder_among c.state.layout ss (of c.state w) w
      (Link parent side old new)) (sym o.are)
      ∙ (neither (refused c.state w (Link parent side old new)) (disorder_in c w (Link parent side old new))
      (unrefused L fits events keys w parent side old new n won)).1

  of_call : LinkOfCall c.state (hold L fits events keys w parent side old new n won)
      (law L fits events keys w parent side old new n won) w (search_of o.searches w) parent side old new l.drafts
      (child after)
  of_call =
      link_of_call c.state (hold L fits events keys w parent side old new n won)
      (law L fits events keys w parent side old new n won) w
      (rw o.leads (each_birth_stands L (enough L fits) o.events)) o.law.order o.law.nested (search_of o.searches w)
      parent side old new in_order o.law.fixed (o.law.walks w)
      l.drafts l.link (child after) (l.exchanged)

  pub is_of_call : IsCalled c w Insert (key after far)
  is_of_call = record {
    searches = o.searches;
    are = o.are;
    is_call = of_call.is_call ∙ (λ i. Some (record {
      op = of_call.is_op i;
      key =
          (sym (key_stays far ∙ of_call.is_key)) i;
    }));
  }

-- by the words before the link
pub far_is : (L : Layout) (fits : IsLayout L) (events : List (ℕ × Event)) (before : List Turn) (w p : ℕ)
    (side s : Side) (old new : ℕ) (n : NodeId) (x : LinkAt L events before w p side old new n)
    → child (words_after L before) new s ≢ old
    → child (words_after L before) new s ≡ (link L fits x.early x.keyed w p side old new n x.won).drafts.far
far_is L fits events before w p side s old new n x fresh =
    let words : words_after L before ≡ (after_in (ordered L) x.early).state.memory = ap (words_after L) x.first_is
    ∙ run_words L fits true x.early in
    ap (λ (m : Memory). child m new s) words ∙ far_child L fits x.early x.keyed w p side old new n x.won s
    (λ same. fresh (ap (λ (m : Memory). child m new s) words ∙ same))
