-- What the map has by some stores it has by more: no later store is of a leaf that is reached. And the
-- value of a leaf is the one that was stored for it right before its link.
use Rattle.std.proofs.Common.{◌≡◌, ◌≢◌, ◌⊎◌, inl, inr, ℕ, ◌+◌, ◌<◌, ◌≤◌, true, List, [], ◌∷◌, ◌++◌, append_assoc, length, refl, sym, ap, subst, ◌∙◌, arith}
use Rattle.std.specs.Prelude.{All, AllPairs, Contains, Ok}
use Rattle.std.proofs.lemmas.List.{length-append}
use Rattle.std.proofs.lemmas.List.Elements.{Contains-append_left}
use Rattle.nm_edge.specs.Edges.{other}
use Rattle.nm_edge.specs.Keys.{IsKey}
use Rattle.nm_edge.specs.Layouts.{Layout, IsLayout}
use Rattle.nm_edge.specs.declared.edge.Side.{Side}
use Rattle.nm_edge.specs.declared.node.NodeId.{NodeId}
use Rattle.nm_model.specs.declared.event.Event.{Event}
use Rattle.nm_model.specs.declared.event.Event.TheVariants.{Link, Swap}
use Rattle.nm_model.specs.declared.reply.Reply.TheVariants.{Cut, Linked}
use Rattle.nm_model.specs.declared.trace.Turn.{Turn}
use Rattle.nm_model.specs.Headline.{Headline, slots_of, words_after}
use Rattle.nm_model.specs.Memory.{Memory, child, is_leaf, named, node}
use Rattle.nm_model.specs.Ordered.{HasKey, ordered, after_in, outcome_in, trace_in}
use Rattle.nm_model.specs.Paths.{Reached}
use Rattle.nm_model.specs.Runs.{of}
use Rattle.nm_order.specs.Logs.{part_of}
use Rattle.nm_order.proofs.RealTime.{begins_with}
use Rattle.nm_order.proofs.RunExchanges.{first_keys}
use Rattle.nm_order.proofs.WalksOfRuns.{trace_in-append}
use Rattle.nm_theorem.proofs.HeadlineOfRuns.{each_run_has_it}
use Rattle.nm_theorem.proofs.Runs.{Parts, parts_of}
use Rattle.nm_theorem.proofs.WrittenWords.{run_words}
use Rattle.nm_steps.specs.declared.view.Stored.{Stored}
use Rattle.nm_steps.specs.Rules.{ComesBefore, ExtendsStores, IsStored, WereHeld, answered_turn}
use Rattle.nm_steps.proofs.LinkedValues.{NobodyHoldsUntil, entries, value_since_link}
use Rattle.nm_steps.proofs.ValueStays.{value_before}
use Rattle.nm_walks.proofs.Looks.{enough}
use Rattle.nm_calls.specs.HandedBack.{WasCutWith}
use Rattle.nm_calls.specs.KeptValues.{ValuesAreByAllStores}
use Rattle.nm_calls.specs.OnceBack.{CutValuesWereStored, HasPutIn, LinksIn, SwapsIn, WasStoredFor}
use Rattle.nm_calls.specs.Maps.{HoldsStores}
use Rattle.nm_calls.proofs.OnceBack.{one_entry, part_append}
use Rattle.nm_calls.proofs.KeptLeaves.{one_holds}
use Rattle.nm_calls.proofs.KeptValues.{held_in_all}
use Rattle.nm_calls.proofs.LeafLinks.{ByLink, BySwap, IsUserLeaf, WasPutIn, was_put_in}
use Rattle.nm_calls.proofs.ReachedNodes.{cut_births, cut_outcome, in_named}
use Rattle.nm_calls.proofs.LinkedLeaves.{far_is_other, far_was_child}
use Rattle.nm_calls.proofs.WonLinks.{link}

module _ (L : Layout) (fits : IsLayout L) (events : List (ℕ × Event)) (keys : All (λ t. HasKey t.1) events)
    (so_far rest : List Turn) (are : trace_in (ordered L) events ≡ so_far ++ rest) where
  p : Parts (ordered L) events so_far rest
  p = parts_of (ordered L) events so_far rest are

  early_keys : All (λ t. HasKey t.1) p.early
  early_keys = first_keys p.early p.late (subst (λ (ts : List (ℕ × Event)). All (λ t. HasKey t.1) ts) p.all keys)

  words : words_after L so_far ≡ (after_in (ordered L) p.early).state.memory
  words = ap (words_after L) p.first_is ∙ run_words L fits true p.early

  -- a leaf that is reached then
  module _ (s : ℕ) (reached : Reached (words_after L so_far) s)
      (leaf : is_leaf (node (words_after L so_far) s) ≡ true)
      (high : (6 ≤ s) ⊎ IsKey (node (words_after L so_far) s).key) where
    l : WasPutIn L p.early s
    l = was_put_in L fits p.early early_keys s
        (subst (λ (m : Memory). IsUserLeaf m s) words (record { reached = reached; leaf = leaf; high = high }))

    abbrev event : ℕ × Event
    event = (l.worker, l.event)

    before_keys : All (λ t. HasKey t.1) l.before
    before_keys = first_keys l.before (event ∷ l.since)
        (subst (λ (ts : List (ℕ × Event)). All (λ t. HasKey t.1) ts) l.are early_keys)

    abbrev turn : Turn
    turn = answered_turn l.worker l.event l.reply

    all_are : events ≡ l.before ++ event ∷ (l.since ++ p.late)
    all_are = p.all ∙ (ap (λ (ts : List (ℕ × Event)). ts ++ p.late) l.are
        ∙ append_assoc l.before (event ∷ l.since) p.late)

    abbrev after_put : List Turn
    after_put = trace_in (after_in (ordered L) (l.before ++ event ∷ [])) l.since

    put_turns : trace_in (ordered L) (l.before ++ event ∷ []) ≡ trace_in (ordered L) l.before ++ turn ∷ []
    unfolding trace_in
    put_turns = trace_in-append (ordered L) l.before (event ∷ [])
        ∙ (λ i. trace_in (ordered L) l.before ++ record { worker = l.worker; event = l.event; outcome = l.won i } ∷ [])

    so_far_is : so_far ≡ trace_in (ordered L) l.before ++ turn ∷ after_put
    so_far_is =
        p.first_is
        ∙ (ap (trace_in (ordered L)) (l.are ∙ sym (append_assoc l.before (event ∷ []) l.since))
        ∙ (trace_in-append (ordered L) (l.before ++ event ∷ []) l.since
        ∙ (ap (λ (ts : List Turn). ts ++ after_put) put_turns
        ∙ append_assoc (trace_in (ordered L) l.before) (turn ∷ []) after_put)))

    took : entries L l.worker l.before < entries L l.worker (l.before ++ event ∷ [])
    took =
        let sum = part_append l.worker (trace_in (ordered L) l.before) (turn ∷ []) in
        let one = one_entry l.worker l.event l.reply [] in
        subst (λ (ts : List Turn). length (part_of l.worker (trace_in (ordered L) l.before)) < length
        (part_of l.worker ts)) (sym put_turns) (omega (arith, sum, one))

    long : length so_far ≡ length p.early
    long = sym p.size

    later : length l.before < length so_far
    later = let size = ap (λ (ts : List (ℕ × Event)). length ts) l.are ∙ length-append l.before (event ∷ l.since) in
        omega (arith, size, long)

    free : NobodyHoldsUntil L events (length l.before + 1) (length so_far) s
    free now since is least most w =
        let part = begins_with now since p.early p.late (sym is ∙ p.all) (omega (arith, most, long)) in
        l.free now part.0 part.1 least (omega (arith, most, long)) w

    words_before : words_after L (trace_in (ordered L) l.before) ≡ (after_in (ordered L) l.before).state.memory
    words_before = run_words L fits true l.before

    -- it was linked
    module _ (k : ByLink (of (after_in (ordered L) l.before).state l.worker) l.event l.reply s) where
      link_won : outcome_in (after_in (ordered L) l.before) (l.worker, Link k.parent k.side k.old k.new) ≡ Ok
          (Linked k.node)
      link_won = ap (λ (e : Event). outcome_in (after_in (ordered L) l.before) (l.worker, e)) (sym k.is)
          ∙ (l.won ∙ ap Ok k.replied)

      abbrev side_of_leaf : Side
      side_of_leaf = other (link L fits l.before before_keys l.worker k.parent k.side k.old k.new k.node
          link_won).drafts.side

      child_is : child (words_after L (trace_in (ordered L) l.before)) k.new side_of_leaf ≡
          (link L fits l.before before_keys l.worker k.parent k.side k.old k.new k.node link_won).drafts.far
      child_is = ap (λ (m : Memory). child m k.new side_of_leaf) words_before
          ∙ far_was_child L fits l.before before_keys l.worker k.parent k.side k.old k.new k.node link_won

      leaf_child : child (words_after L (trace_in (ordered L) l.before)) k.new side_of_leaf ≡ s
      leaf_child = child_is ∙ (sym (link L fits l.before before_keys l.worker k.parent k.side k.old k.new k.node
          link_won).drafts.is_far ∙ k.leaf)

      leaf_beside : child (words_after L (trace_in (ordered L) l.before)) k.new side_of_leaf ≢ k.old
      leaf_beside same = far_is_other L fits l.before before_keys l.worker k.parent k.side k.old k.new k.node link_won
          (sym child_is ∙ same)

      turn_is_link : turn ≡ answered_turn l.worker (Link k.parent k.side k.old k.new) (Linked k.node)
      turn_is_link i = answered_turn l.worker (k.is i) (k.replied i)

    -- it has a store by stores that hold from that moment on
    stored : (first : List Stored) → HoldsStores L so_far (trace_in (ordered L) events) first
        → IsStored first l.worker (entries L l.worker l.before) s
    stored first h = by l.way
      where
        until_is : (t : Turn) → turn ≡ t → h.until ≡ trace_in (ordered L) l.before ++ t ∷ (after_put ++ h.from.more)
        until_is t same =
            h.from.is ∙ (ap (λ (ts : List Turn). ts ++ h.from.more) so_far_is
            ∙ append_assoc (trace_in (ordered L) l.before) (turn ∷ after_put) h.from.more)
            ∙ ap (λ (u : Turn). trace_in (ordered L) l.before ++ u ∷ (after_put ++ h.from.more)) same

        by : ByLink (of (after_in (ordered L) l.before).state l.worker) l.event l.reply s ⊎ BySwap l.event l.reply s
            → IsStored first l.worker (entries L l.worker l.before) s
        by (inl k) =
            subst (IsStored first l.worker (entries L l.worker l.before)) (leaf_child k)
            (h.linked (trace_in (ordered L) l.before) (after_put ++ h.from.more) l.worker k.parent k.side
            (side_of_leaf k) k.old k.new k.node
            (until_is (answered_turn l.worker (Link k.parent k.side k.old k.new) (Linked k.node)) (turn_is_link k))
            (leaf_beside k))
        by (inr k) =
            h.swapped (trace_in (ordered L) l.before)
            (after_put ++ h.from.more) l.worker k.parent k.side k.old s k.nodes
            (until_is (answered_turn l.worker (Swap k.parent k.side k.old s) (Cut k.nodes))
            (λ i. answered_turn l.worker (k.is i) (k.replied i)))

    -- the value is the one of this store
    value_is : (stores : List Stored) → WereHeld L events stores → AllPairs ComesBefore stores
        → (at : IsStored stores l.worker (entries L l.worker l.before) s)
        → value_before (length so_far) stores s ≡ at.stored.value
    value_is stores held order at = value_since_link L events stores held order l.before
        (l.since ++ p.late) l.worker s l.event all_are l.below took (one_holds L (enough L fits) events keys s) at
        (length so_far) later free

    pub same_by_more : (first stores : List Stored) → HoldsStores L so_far (trace_in (ordered L) events) first
        → ExtendsStores stores first → (from : List Turn) → HoldsStores L from (trace_in (ordered L) events) stores
        → value_before (length so_far) stores s ≡ value_before (length so_far) first s
    same_by_more first stores h on from h' =
        let at = stored first h in
        value_is stores (held_in_all L fits from events stores h') h'.order (later_store at)
        ∙ sym (value_is first (held_in_all L fits so_far events first h) h.order at)
      where
        later_store : IsStored first l.worker (entries L l.worker l.before) s
            → IsStored stores l.worker (entries L l.worker l.before) s
        later_store at = record {
          stored = at.stored;
          there = subst (λ (st : List Stored). Contains st at.stored) (sym on.is)
              (Contains-append_left first on.more at.stored at.there);
          by_worker = at.by_worker;
          at_own = at.at_own;
          for_slot = at.for_slot;
        }

-- ---- the value that a leaf had when it was cut off

module _ (L : Layout) (fits : IsLayout L) (events : List (ℕ × Event)) (keys : All (λ t. HasKey t.1) events)
    (stores : List Stored) (n : NodeId) (v : ℕ) (b : WasCutWith L (trace_in (ordered L) events) stores n v) where
  abbrev turns : List Turn
  turns = trace_in (ordered L) events

  h : Headline L turns
  h = each_run_has_it L fits true events keys

  -- the node is the one that was in its slot right before the cut
  n_is : n ≡ named (words_after L b.before) n.slot
  n_is = by (cut_outcome b.cut.outcome n b.cuts)
    where
      by : (ns : List NodeId) × (b.cut.outcome ≡ Ok (Cut ns)) × Contains ns n
          → n ≡ named (words_after L b.before) n.slot
      by (ns, o, among) = in_named (words_after L b.before) (slots_of ns) n
          (subst (λ (ks : List NodeId). Contains ks n)
          (cut_births (words_after L b.before) b.cut (h.cuts b.before b.since b.cut b.are) ns o) among)

  abbrev k : WasPutIn L (p L fits events keys b.before (b.cut ∷ b.since) b.are).early n.slot
  k = l L fits events keys b.before (b.cut ∷ b.since) b.are n.slot b.reached b.leaf (inl b.high)

  at : IsStored b.first k.worker (entries L k.worker k.before) n.slot
  at = stored L fits events keys b.before (b.cut ∷ b.since) b.are n.slot b.reached b.leaf (inl b.high) b.first b.stored

  abbrev early : List Turn
  early = trace_in (ordered L) k.before

  abbrev its : Turn
  its = answered_turn k.worker k.event k.reply

  abbrev between : List Turn
  between = after_put L fits events keys b.before (b.cut ∷ b.since) b.are n.slot b.reached b.leaf (inl b.high)

  born : (node (words_after L early) n.slot).birth ≡ (node (words_after L b.before) n.slot).birth
  born =
      ap (λ (m : Memory). (node m n.slot).birth)
      (words_before L fits events keys b.before (b.cut ∷ b.since) b.are n.slot b.reached b.leaf (inl b.high))
      ∙ (k.born ∙ sym (ap (λ (m : Memory). (node m n.slot).birth)
      (words L fits events keys b.before (b.cut ∷ b.since) b.are)))

  named_early : n ≡ named (words_after L early) n.slot
  named_early = n_is ∙ (λ i. record { slot = n.slot; birth = sym born i })

  put_way : (w : ℕ) → k.worker ≡ w → ByLink (of (after_in (ordered L) k.before).state k.worker) k.event k.reply n.slot
      ⊎ BySwap k.event k.reply n.slot
      → LinksIn (words_after L early) w its n ⊎ SwapsIn (words_after L early) w its n
  put_way w own (inl lk) = inl (record {
    parent = lk.parent;
    side = lk.side;
    old = lk.old;
    new = lk.new;
    node = lk.node;
    is_link = λ i. answered_turn (own i) (lk.is i) (lk.replied i);
    on = side_of_leaf L fits events keys b.before (b.cut ∷ b.since) b.are n.slot b.reached b.leaf (inl b.high) lk;
    beside = leaf_beside L fits events keys b.before (b.cut ∷ b.since) b.are n.slot b.reached b.leaf (inl b.high) lk;
    is = named_early ∙ ap (named (words_after L early))
        (sym (leaf_child L fits events keys b.before (b.cut ∷ b.since) b.are n.slot b.reached b.leaf (inl b.high) lk));
  })
  put_way w own (inr sw) = inr (record {
    parent = sw.parent;
    side = sw.side;
    old = sw.old;
    nodes = sw.nodes;
    is_swap = λ i. answered_turn (own i) (sw.is i) (sw.replied i);
    is = named_early;
  })

  abbrev put_in : (w : ℕ) → k.worker ≡ w → HasPutIn L turns w n
  put_in w own = record {
    before = early;
    put = its;
    since = between ++ b.cut ∷ b.since;
    are = b.are ∙ (ap (λ (ts : List Turn). ts ++ b.cut ∷ b.since)
        (so_far_is L fits events keys b.before (b.cut ∷ b.since) b.are n.slot b.reached b.leaf (inl b.high))
        ∙ append_assoc early (its ∷ between) (b.cut ∷ b.since));
    way = put_way w own k.way;
  }

  pub was_stored_for : WasStoredFor L turns stores n v
  was_stored_for = record {
    stored = at.stored;
    there = subst (λ (st : List Stored). Contains st at.stored) (sym b.extends.is)
        (Contains-append_left b.first b.extends.more at.stored at.there);
    of = record {
      put_in = put_in at.stored.worker (sym at.by_worker);
      own = at.at_own ∙ ap (λ (w : ℕ). length (part_of w early)) (sym at.by_worker);
      slot = at.for_slot;
    };
    is = sym (value_is L fits events keys b.before (b.cut ∷ b.since) b.are n.slot b.reached b.leaf
        (inl b.high) b.first (held_in_all L fits b.before events b.first b.stored) b.stored.order at)
        ∙ b.has_value;
  }

pub cut_values_were_stored : CutValuesWereStored
cut_values_were_stored L fits events keys stores n v b = was_stored_for L fits events keys stores n v b

-- ---- the law

pub values_are_by_all_stores : ValuesAreByAllStores
values_are_by_all_stores L fits events keys so_far rest are first stores h on from h' k v is_key i = record {
  slot = i.slot;
  reached = i.reached;
  leaf = i.leaf;
  has_key = i.has_key;
  has_value = same_by_more L fits events keys so_far rest are i.slot i.reached i.leaf
      (inr (subst IsKey (sym i.has_key) is_key)) first stores h on from h' ∙ i.has_value;
}
