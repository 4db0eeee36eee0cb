-- Of two walks for the key nearest to one, which found none one behind the other: somebody linked or
-- cut off a node meanwhile.
use Rattle.std.proofs.Common.{◌≡◌, ◌≢◌, ℕ, zero, suc, ◌+◌, ◌*◌, ◌-◌, ◌<◌, ◌≤◌, List, [], ◌++◌, append_assoc, sym, ap, subst, ◌∙◌, arith}
use Rattle.std.specs.Prelude.{All}
use Rattle.std.proofs.lemmas.List.{append-nil, append_cancel_left}
use Rattle.nm_edge.specs.Layouts.{Layout}
use Rattle.nm_edge.specs.Keys.{IsKey}
use Rattle.nm_edge.specs.declared.edge.Side.{Side}
use Rattle.nm_edge.specs.declared.edge.Side.TheVariants.{Left, Right}
use Rattle.nm_model.specs.declared.event.Event.{Event}
use Rattle.nm_model.specs.Memory.{infinity_1}
use Rattle.nm_model.specs.Ordered.{Configuration, after_in, trace_in}
use Rattle.nm_model.specs.Walks.{Entry}
use Rattle.nm_order.specs.Intervals.{HasKey, key}
use Rattle.nm_order.specs.Logs.{part_of}
use Rattle.nm_order.proofs.OrderedLaws.{IsOrdered}
use Rattle.nm_order.proofs.RunExchanges.{first_keys}
use Rattle.nm_order.proofs.WalksOfRuns.{trace_in-append}
use Rattle.nm_walks.specs.declared.looking.Onward.{Onward}
use Rattle.nm_walks.specs.declared.seek_record.ChainEdge.{ChainEdge}
use Rattle.nm_walks.specs.declared.seek_record.SeekRecord.{SeekRecord}
use Rattle.nm_calls.specs.NearKeys.{ComesBy, HasNone, HaveNone, bound}
use Rattle.nm_walks.specs.Walks.{Reads, Walks, EndsAtLeaf}
use Rattle.nm_progress.specs.Moves.{number_of}
use Rattle.nm_progress.proofs.LostTries.{later_keys}
use Rattle.nm_progress.proofs.MoreTries.{Plain, plain_then}
use Rattle.nm_progress.proofs.Reshapes.{is_reshape, StaysThere, calm_turns}
use Rattle.nm_progress.proofs.SplitTurns.{ordered_after, number-append}
use Rattle.nm_progress.proofs.WalkInterference.{SplitPart, split_part, HasInterference, Strays, OnPath, IsRead, walk_path, walk_plain, behind_read, read_there}
use Rattle.nm_progress.proofs.Between.{Comes, Ends, Passes, both_null, passes, at_key, none_between}
use Rattle.nm_progress.proofs.Parts.{Longer, longer_none, longer_then, plain_longer, reads_plain, walk_longer}

-- ---- what walks tell of the tree that stays

module _ (L : Layout) (enough : 5 ≤ L.nodes) (w : ℕ) (c : Configuration) (o : IsOrdered L c) (ts : List (ℕ × Event))
    (keys : All (λ t. HasKey t.1) ts) (calm : number_of is_reshape (trace_in c ts) ≡ 0) where
  -- the node that a walk reads
  module _ (k n : ℕ) (low : k < infinity_1) (old mid new : List Entry) (s : SeekRecord) (chain : List ChainEdge)
      (on : Onward) (walk : Walks k n old mid s chain) (reads : Reads k s.edge.slot mid new on) (rest : List Entry)
      (whole : old ++ part_of w (trace_in c ts) ≡ new ++ rest) where
    path : OnPath L enough w c o ts keys calm k n s
    path = walk_path L enough w c o ts keys calm k n old mid s chain walk _
        (behind_read L enough w c o ts keys calm k s.edge.slot old mid new on reads rest whole)

    comes : Comes L enough c o k s.edge.slot
    comes = record { path = path.sides; ends = path.ends; goes = path.goes low; is_slot = path.is_slot }

    read : IsRead L enough w c o ts keys calm s.edge.slot on
    read = read_there L enough w c o ts keys calm k s.edge.slot old mid new on reads rest whole
        (walk_longer k n old mid s chain walk) (record { path = path.sides; ends = path.ends; is_slot = path.is_slot })

    at_leaf : on.next.slot ≡ 0 → Ends L enough c o k s.edge.slot
    at_leaf null = record {
      comes = comes;
      leaf = both_null L enough c o k s.edge.slot comes on.side
          (sym read.leads ∙ null);
    }

    at_router : on.next.slot ≢ 0 → Passes L enough c o k s.edge.slot
    at_router some = passes L enough c o k s.edge.slot comes on.side (λ none. some (read.leads ∙ none))

  -- a walk that has ended
  pub search_ends : (k : ℕ) → k < infinity_1 → (old new : List Entry) (s : SeekRecord) (chain : List ChainEdge)
      (found : ℕ) → EndsAtLeaf L k old new s chain found → (rest : List Entry)
      → old ++ part_of w (trace_in c ts) ≡ new ++ rest
      → (y : ℕ) × Ends L enough c o k y × (found ≡ key c.state.memory y)
  search_ends k low old new s chain found (n, mid, on, few, walk, null, reads, is) rest whole = (
    s.edge.slot,
    at_leaf k n low old mid new s chain on walk reads rest whole null,
    sym is
        ∙ (read k n low old mid new s chain on walk reads rest whole).key_is,
  )

  -- and one that came by a router
  pub search_passes : (k : ℕ) → k < infinity_1 → (router : ℕ) (old new : List Entry) → ComesBy k router old new
      → (rest : List Entry) → old ++ part_of w (trace_in c ts) ≡ new ++ rest
      → (x : ℕ) × Passes L enough c o k x × (key c.state.memory x ≡ router)
  search_passes k low router old new (n, mid, at, behind, s, chain, on, walk, reads, some, is, are) rest whole =
      let there : old ++ part_of w (trace_in c ts) ≡ at ++ (behind ++ rest) = whole
      ∙ (ap (λ (l : List Entry). l ++ rest) are ∙ append_assoc at behind rest) in (
        s.edge.slot,
        at_router k n low old mid at s chain on walk reads (behind ++ rest) there some,
        sym
            (read k n low old mid at s chain on walk reads (behind ++ rest) there).key_is ∙ is,
      )

  -- the keys that such a walk serves
  none_there : (from to router : ℕ) → to ≤ infinity_1 → (old new : List Entry) → HasNone L from to router old new
      → (rest : List Entry) → old ++ part_of w (trace_in c ts) ≡ new ++ rest
      → (j : ℕ) → from ≤ j → j < to → (y : ℕ) × Ends L enough c o j y × (key c.state.memory y ≢ j)
  none_there from to router low old new has rest whole j le less =
      let served = has.1 j le less in
      let at = search_ends j (omega (arith, low, less)) old new served.0 served.1 served.2 served.3 rest whole in
      (at.0, at.1, λ same. served.4 (at.2 ∙ same))

-- ---- two such walks

walk_is_plain : (L : Layout) (from to router : ℕ) (old new : List Entry) → HasNone L from to router old new
    → Plain old new
walk_is_plain L from to router old new has = by (has.1 from (omega arith) has.0)
  where
    by : (s : SeekRecord) × (c : List ChainEdge) × (found : ℕ) × EndsAtLeaf L from old new s c found × (found ≢ from)
        → Plain old new
    by (s, c, found, (n, mid, on, few, walk, null, reads, is), other) = plain_then old mid new
        (walk_plain from n old mid s c walk) (reads_plain from s.edge.slot mid new on reads)

module _ (L : Layout) (enough : 5 ≤ L.nodes) (w : ℕ) where
  -- an internal node that stays is on the way of the search for its key
  still : (c d : Configuration) (o : IsOrdered L c) (p : IsOrdered L d) (k x : ℕ) → Passes L enough c o k x
      → StaysThere L enough c d x → Passes L enough d p (key d.state.memory x) x
  still c d o p k x passes there = record {
    comes = at_key L enough d p x there.reached;
    inner = λ e none.
        passes.inner e (sym (there.leads e) ∙ none);
  }

  -- what the first walk has passed stands in the tree in which the second one goes
  pub record Second (c : Configuration) (router : ℕ) (mid new : List Entry) : Type 0 where
    pub now : Configuration
    pub is_ordered : IsOrdered L now
    pub events : List (ℕ × Event)
    pub keys : All (λ t. HasKey t.1) events
    pub calm : number_of is_reshape (trace_in now events) ≡ 0
    pub whole : mid ++ part_of w (trace_in now events) ≡ new ++ []
    pub node : ℕ
    pub passes : Passes L enough now is_ordered (key now.state.memory node) node
    pub key_is : key now.state.memory node ≡ router

  second : (k router : ℕ) → k < infinity_1 → (old mid new : List Entry) → ComesBy k router old mid → Plain old mid
      → Plain mid new
      → (c : Configuration) → IsOrdered L c → (ts : List (ℕ × Event)) → All (λ t. HasKey t.1) ts
      → number_of is_reshape (trace_in c ts) ≡ 0 → old ++ part_of w (trace_in c ts) ≡ new → Second c router mid new
  second k router low old mid new by first last c o ts keys calm whole = of
      (split_part w first.entries c ts last.entries part)
      (search_passes L enough w c o ts keys calm k low router old mid by last.entries (whole ∙ last.are))
    where
      part : part_of w (trace_in c ts) ≡ first.entries ++ last.entries
      part = append_cancel_left old _ _ (whole ∙ (last.are
          ∙ (ap (λ (l : List Entry). l ++ last.entries) first.are ∙ append_assoc old first.entries last.entries)))

      of : SplitPart w c ts first.entries last.entries
          → (x : ℕ) × Passes L enough c o k x × (key c.state.memory x ≡ router) → Second c router mid new
      of s (x, passes, is) = record {
        now = after_in c s.before;
        is_ordered = there;
        events = s.since;
        keys = later_keys s.before s.since all;
        calm = none.1;
        whole = ap (λ (l : List Entry). mid ++ l) s.is_since ∙ (sym last.are ∙ sym (append-nil new));
        node = x;
        passes = still c (after_in c s.before) o there k x passes stays;
        key_is = stays.key_is ∙ is;
      }
        where
          all : All (λ t. HasKey t.1) (s.before ++ s.since)
          all = subst (λ (l : List (ℕ × Event)). All (λ t. HasKey t.1) l) s.is_run keys

          there : IsOrdered L (after_in c s.before)
          there = ordered_after w L enough s.before (first_keys s.before s.since all) c o

          none : (number_of is_reshape (trace_in c s.before) ≡ 0)
              × (number_of is_reshape (trace_in (after_in c s.before) s.since) ≡ 0)
          none =
              let run = ap (λ (l : List (ℕ × Event)). number_of is_reshape (trace_in c l)) s.is_run in
              let parts = ap (number_of is_reshape) (trace_in-append c s.before s.since)
              ∙ number-append is_reshape (trace_in c s.before) (trace_in (after_in c s.before) s.since) in
              (omega (arith, calm, run, parts), omega (arith, calm, run, parts))

          stays : StaysThere L enough c (after_in c s.before) x
          stays = calm_turns L enough s.before (first_keys s.before s.since all) c o none.0 x
              (record { path = passes.comes.path; ends = passes.comes.ends; is_slot = passes.comes.is_slot })

  module _ (a b d : ℕ) (low : b ≤ infinity_1) (old mid new : List Entry) where
    -- upwards
    next_interference : HasNone L d a a old mid → HasNone L a b b mid new → HasInterference L enough w old new
    next_interference one two = record {
      plain = plain_then old mid new first last;
      never = λ c o ts keys calm whole.
          led c (second d a small old mid new (one.2 d (omega arith) one.0) first last c o ts keys calm whole);
    }
      where
        first : Plain old mid
        first = walk_is_plain L d a a old mid one

        last : Plain mid new
        last = walk_is_plain L a b b mid new two

        small : d < infinity_1
        small = let less = one.0 in let wide = two.0 in omega (arith, low, less, wide)

        led : (c : Configuration) → Second c a mid new → ⊥
        led c s =
            let q = search_passes L enough w s.now s.is_ordered s.events s.keys s.calm a
            (let wide = two.0 in omega (arith, low, wide)) b mid new (two.2 a (omega arith) two.0) [] s.whole in
            none_between L enough s.now s.is_ordered a b s.node q.0 two.0
            (none_there L enough w s.now s.is_ordered s.events s.keys s.calm a b b low mid new two [] s.whole)
            (key s.now.state.memory s.node) a s.passes s.key_is q.1 q.2

    -- downwards
    prev_interference : d ≤ infinity_1 → HasNone L b d b old mid → HasNone L a b a mid new
        → HasInterference L enough w old new
    prev_interference small one two = record {
      plain = plain_then old mid new first last;
      never = λ c o ts keys calm
          whole. led c (second b b (let less = one.0 in omega (arith, small, less)) old mid new
          (one.2 b (omega arith) one.0) first last c o ts keys calm whole);
    }
      where
        first : Plain old mid
        first = walk_is_plain L b d b old mid one

        last : Plain mid new
        last = walk_is_plain L a b a mid new two

        led : (c : Configuration) → Second c b mid new → ⊥
        led c s =
            let wide = two.0 in
            let q = search_passes L enough w s.now s.is_ordered s.events s.keys s.calm (b - 1)
            (omega (arith, low, wide)) a mid new (two.2 (b - 1) (omega (arith, wide)) (omega (arith, wide))) []
            s.whole in
            none_between L enough s.now s.is_ordered a b q.0 s.node two.0
            (none_there L enough w s.now s.is_ordered s.events s.keys s.calm a b a low mid new two [] s.whole)
            (b - 1) (key s.now.state.memory s.node) q.1 q.2 s.passes s.key_is

  -- ---- and so many

  none_longer : (a b router : ℕ) (old new : List Entry) → HasNone L a b router old new → Longer old new
  none_longer a b router old new has = plain_longer old new (walk_is_plain L a b router old new has)

  -- of each two of them
  nexts_interference : (n k to : ℕ) → to ≤ infinity_1 → (old new : List Entry) → HaveNone Right L n k to old new
      → (m : ℕ) × (n ≤ 2 * m + 1) × Strays L enough w m old new
  nexts_interference zero k to low old new h = (0, omega arith, longer_none old new h.1)
  nexts_interference (suc zero) k to low old new h =
      (0, omega arith, longer_then old h.0 new (longer_none old h.0 h.2.1) (none_longer h.1 to to h.0 new h.3))
  nexts_interference (suc (suc n)) k to low old new (mid, from, (first, before, earlier, one), two) = more
      (nexts_interference n k before (let less = one.0 in let wide = two.0 in omega (arith, low, less, wide)) old first
      earlier)
    where
      more : (m : ℕ) × (n ≤ 2 * m + 1) × Strays L enough w m old first
          → (m : ℕ) × (suc (suc n) ≤ 2 * m + 1) × Strays L enough w m old new
      more (m, half, strays) = (
        suc m,
        omega (arith, half),
        (first, strays, next_interference from to before low first mid new one two),
      )

  prevs_interference : (n k to : ℕ) → k + 1 ≤ infinity_1 → (old new : List Entry) → HaveNone Left L n k to old new
      → (m : ℕ) × (n ≤ 2 * m + 1) × (to ≤ k + 1) × Strays L enough w m old new
  prevs_interference zero k to low old new h = (
    0,
    omega arith,
    (let is = h.0 in omega (arith, is)),
    longer_none old
        new h.1,
  )
  prevs_interference (suc zero) k to low old new h = (
    0,
    omega arith,
    (let is = h.2.0 in let less = h.3.0 in omega (arith, is, less)),
    longer_then old h.0 new
        (longer_none old h.0 h.2.1) (none_longer to h.1 to h.0 new h.3),
  )
  prevs_interference (suc (suc n)) k to low old new (mid, from, (first, before, earlier, one), two) = more
      (prevs_interference n k before low old first earlier)
    where
      more : (m : ℕ) × (n ≤ 2 * m + 1) × (before ≤ k + 1) × Strays L enough w m old first
          → (m : ℕ) × (suc (suc n) ≤ 2 * m + 1) × (to ≤ k + 1) × Strays L enough w m old new
      more (m, half, high, strays) = (
        suc m,
        omega (arith, half),
        (let less = one.0 in let wide = two.0 in omega (arith, high, less, wide)),
        (
          first,
          strays,
          prev_interference to from before (let less = one.0 in omega (arith, low, high, less)) first
              mid new (omega (arith, low, high)) one two,
        ),
      )

  pub nears_interference : (side : Side) (n k next : ℕ) → IsKey k → IsKey next → (old new : List Entry)
      → HaveNone side L n k (bound side next) old new → (m : ℕ) × (n ≤ 2 * m + 1) × Strays L enough w m old new
  nears_interference Left n k next first last old new h =
      let found = prevs_interference n k (next + 1) (let le = first in omega (arith, le)) old new h in
      (found.0, found.1, found.3)
  nears_interference Right n k next first last old new h = nexts_interference n k next
      (let le = last in omega (arith, le)) old new h
