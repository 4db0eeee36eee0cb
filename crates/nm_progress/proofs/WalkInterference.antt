-- A walk that is as long as there are slots met interference by a link or a splice of another worker.
use Rattle.std.proofs.Common.{◌≡◌, ◌≢◌, ℕ, zero, suc, ◌+◌, ◌<◌, ◌≤◌, Bool, true, false, ◌||◌, List, length, [], ◌∷◌, ◌++◌, append_assoc, refl, sym, ap, subst, ◌∙◌, arith}
use Rattle.std.specs.Prelude.{Ok, All}
use Rattle.std.specs.List.{list_any}
use Rattle.std.proofs.lemmas.Bool.{or_parts}
use Rattle.std.proofs.lemmas.List.{append-nil, append_cancel_left, length-append}
use Rattle.nm_edge.specs.Edges.{Edge}
use Rattle.nm_edge.specs.Layouts.{Layout}
use Rattle.nm_edge.specs.declared.edge.Side.{Side}
use Rattle.nm_edge.specs.declared.edge.Side.TheVariants.{Left, Right}
use Rattle.nm_model.specs.declared.event.Event.{Event}
use Rattle.nm_model.specs.declared.event.Event.TheVariants.{Look}
use Rattle.nm_model.specs.declared.event.Field.TheVariants.{Key as KeyOf, Edge as EdgeOn}
use Rattle.nm_model.specs.declared.reply.Reply.TheVariants.{KeyIs, EdgeIs}
use Rattle.nm_model.specs.Memory.{edge, child, infinity_1, infinity_2}
use Rattle.nm_model.specs.Paths.{follow, Reached}
use Rattle.nm_model.specs.Searches.{side_of}
use Rattle.nm_model.specs.Walks.{Entry, begins_anew}
use Rattle.nm_model.specs.Ordered.{Configuration, next_in, after_in, trace_in}
use Rattle.nm_laws.proofs.Configurations.{after_in-append}
use Rattle.nm_laws.proofs.Trees.{follow-append}
use Rattle.nm_order.specs.Intervals.{HasKey, GoesBy, key}
use Rattle.nm_order.specs.Logs.{part_of}
use Rattle.nm_order.proofs.OrderedLaws.{IsOrdered, law_of_state}
use Rattle.nm_order.proofs.PartsOfRuns.{own_adds}
use Rattle.nm_order.proofs.RadixTrees.{left_if}
use Rattle.nm_order.proofs.RunExchanges.{first_keys}
use Rattle.nm_order.proofs.Searching.{goes-append}
use Rattle.nm_order.proofs.WalksOfRuns.{trace_in-append}
use Rattle.nm_order.proofs.CutTurns.{layout_is}
use Rattle.nm_walks.specs.declared.looking.Onward.{Onward}
use Rattle.nm_walks.specs.declared.seek_record.ChainEdge.{ChainEdge}
use Rattle.nm_walks.specs.declared.seek_record.SeekRecord.{SeekRecord}
use Rattle.nm_walks.specs.Walks.{edge_on, Reads, Walks, IsTooLong}
use Rattle.nm_calls.specs.Calls.{LostWalks}
use Rattle.nm_progress.specs.Moves.{number_of}
use Rattle.nm_progress.specs.Paid.{links_on, flags_on, cuts_on, tags_on}
use Rattle.nm_progress.specs.Tries.{changes_edge, reshapes, reshapes_of_others}
use Rattle.nm_progress.proofs.LostTries.{later_keys}
use Rattle.nm_progress.proofs.MoreTries.{is_loud, Plain, plain_these, plain_then}
use Rattle.nm_progress.proofs.Reshapes.{is_reshape, look_there, key_there, tag_there, nobody, long_path}
use Rattle.nm_progress.proofs.SplitTurns.{SplitTurn, split_turn, ordered_after, none_of_log, number-append}
use Rattle.nm_progress.proofs.LostPins.{part-append}
use Rattle.nm_progress.proofs.Parts.{Longer, longer_then, plain_longer, walk_longer, reads_plain}
use Rattle.nm_progress.proofs.WalkReads.{onto_edge}

-- ---- a part in two

pub record SplitPart (w : ℕ) (c : Configuration) (ts : List (ℕ × Event)) (xs ys : List Entry) : Type 0 where
  pub before : List (ℕ × Event)
  pub since : List (ℕ × Event)
  pub is_run : ts ≡ before ++ since
  pub is_before : part_of w (trace_in c before) ≡ xs
  pub is_since : part_of w (trace_in (after_in c before) since) ≡ ys

pub split_part : (w : ℕ) (xs : List Entry) (c : Configuration) (ts : List (ℕ × Event)) (ys : List Entry)
    → part_of w (trace_in c ts) ≡ xs ++ ys → SplitPart w c ts xs ys
unfolding after_in trace_in
split_part w [] c ts ys is = record { before = []; since = ts; is_run = refl; is_before = refl; is_since = is }
split_part w (x ∷ xs) c ts ys is =
    let a = split_turn w ts c [] x (xs ++ ys) is in
    behind a (split_part w xs (next_in (after_in c a.before) a.turn) a.since ys a.is_since)
  where
    behind : (a : SplitTurn w c ts [] x (xs ++ ys))
        → SplitPart w (next_in (after_in c a.before) a.turn) a.since xs ys → SplitPart w c ts (x ∷ xs) ys
    behind a b = record {
      before = a.before ++ a.turn ∷ b.before;
      since = b.since;
      is_run = a.is_run ∙ (ap (λ (l : List (ℕ × Event)). a.before ++ a.turn ∷ l) b.is_run
          ∙ sym (append_assoc a.before (a.turn ∷ b.before) b.since));
      is_before = ap (part_of w) (trace_in-append c a.before (a.turn ∷ b.before))
          ∙ (part-append w (trace_in c a.before) (trace_in (after_in c a.before) (a.turn ∷ b.before))
          ∙ (ap (λ (l : List Entry). l ++ part_of w (trace_in (after_in c a.before) (a.turn ∷ b.before))) a.is_before
          ∙ (own_adds w (after_in c a.before) a.turn b.before a.is_allowed a.takes
          ∙ ((λ i. a.is_entry i ∷ part_of w (trace_in (next_in (after_in c a.before) a.turn) b.before))
          ∙ ap (λ (l : List Entry). x ∷ l) b.is_before))));
      is_since = ap (λ (d : Configuration). part_of w (trace_in d b.since))
          (after_in-append c a.before (a.turn ∷ b.before)) ∙ b.is_since;
    }

-- ---- walks

pub walk_plain : (k n : ℕ) (old new : List Entry) (s : SeekRecord) (c : List ChainEdge) → Walks k n old new s c
    → Plain old new
walk_plain k zero old new s c w = plain_these _ old new refl w.3
walk_plain k (suc n) old new s c w = plain_then old w.0 new (walk_plain k n old w.0 w.1 w.2 w.4)
    (reads_plain k w.1.edge.slot w.0 new w.3 w.6)

quiet_shape : (es : List Entry) → list_any is_loud es ≡ false
    → list_any (λ (e : Entry). reshapes e.0 (Ok e.1)) es ≡ false
quiet_shape [] quiet = refl
quiet_shape (e ∷ es) quiet = by (or_parts (is_loud e) (list_any is_loud es) quiet) (quiet_shape es)
  where
    by : (is_loud e ≡ false) × (list_any is_loud es ≡ false)
        → (list_any is_loud es ≡ false → list_any (λ (e : Entry). reshapes e.0 (Ok e.1)) es ≡ false)
        → list_any (λ (e : Entry). reshapes e.0 (Ok e.1)) (e ∷ es) ≡ false
    by parts rest =
        let edges = (or_parts (begins_anew e) (changes_edge e.0 (Ok e.1)) parts.0).1 in
        let links = or_parts (links_on e.0 (Ok e.1)) (flags_on e.0 (Ok e.1)
        || (cuts_on e.0 (Ok e.1) || tags_on e.0 (Ok e.1))) edges in
        let flags = or_parts (flags_on e.0 (Ok e.1)) (cuts_on e.0 (Ok e.1) || tags_on e.0 (Ok e.1)) links.1 in
        let cuts = or_parts (cuts_on e.0 (Ok e.1)) (tags_on e.0 (Ok e.1)) flags.1 in
        ap (λ (b : Bool). (b || cuts_on e.0 (Ok e.1)) || list_any (λ (e : Entry). reshapes e.0 (Ok e.1)) es) links.0
        ∙ (ap (λ (b : Bool). b || list_any (λ (e : Entry). reshapes e.0 (Ok e.1)) es) cuts.0 ∙ rest parts.1)

module _ (L : Layout) (enough : 5 ≤ L.nodes) (w : ℕ) (c : Configuration) (o : IsOrdered L c) (ts : List (ℕ × Event))
    (keys : All (λ t. HasKey t.1) ts) (calm : number_of is_reshape (trace_in c ts) ≡ 0) where
  at_second : follow (child c.state.memory) 1 (Left ∷ []) ≡ 2
  at_second = (law_of_state L enough c o).1.tree.root_left

  -- ---- a node that a walk reads

  three : (l : List Entry) (a b e : Entry) (r : List Entry)
      → (((l ++ a ∷ []) ++ b ∷ []) ++ e ∷ []) ++ r ≡ l ++ a ∷ b ∷ e ∷ r
  three [] a b e r = refl
  three (x ∷ l) a b e r = ap (λ (l : List Entry). x ∷ l) (three l a b e r)

  two : (l : List Entry) (a : Entry) (r : List Entry) → l ++ a ∷ r ≡ (l ++ a ∷ []) ++ r
  two l a r = sym (append_assoc l (a ∷ []) r)

  -- has the key and the edges that it had
  pub record IsRead (x : ℕ) (on : Onward) : Type 0 where
    pub key_is : on.found ≡ key c.state.memory x
    pub leads : on.next.slot ≡ child c.state.memory x on.side
    pub tagged : on.next.slot ≢ 0 → on.next.tag ≡ true → (edge (after_in c ts).state.memory x on.side).tag ≡ true

  module _ (k x : ℕ) (old mid new : List Entry) (on : Onward) (reads : Reads k x mid new on) (rest : List Entry)
      (whole : old ++ part_of w (trace_in c ts) ≡ new ++ rest) where
    pub behind_read : old ++ part_of w (trace_in c ts)
        ≡ mid ++ ((Look x KeyOf, KeyIs on.found) ∷ (Look x (EdgeOn Left), EdgeIs reads.0)
        ∷ (Look x (EdgeOn Right), EdgeIs reads.1) ∷ rest)
    behind_read = whole ∙ (ap (λ (l : List Entry). l ++ rest) reads.2 ∙ three mid _ _ _ rest)

    pub read_there : Longer old mid → Reached c.state.memory x → IsRead x on
    read_there longer reached = record {
      key_is = key_there L enough w ts keys c o calm longer.entries x on.found
          ((Look x (EdgeOn Left), EdgeIs reads.0) ∷ (Look x (EdgeOn Right), EdgeIs reads.1) ∷ rest) part reached;
      leads = ap (λ (e : Edge). e.slot) reads.4 ∙ on_side on.side;
      tagged = λ some tag. tag_on on.side (λ none. some (ap (λ (e : Edge). e.slot) reads.4 ∙ none))
          (sym (ap (λ (e : Edge). e.tag) reads.4) ∙ tag);
    }
      where
        part : part_of w (trace_in c ts) ≡ longer.entries
            ++ ((Look x KeyOf, KeyIs on.found) ∷ (Look x (EdgeOn Left), EdgeIs reads.0)
            ∷ (Look x (EdgeOn Right), EdgeIs reads.1) ∷ rest)
        part = append_cancel_left old _ _ (behind_read
            ∙ (ap (λ (l : List Entry). l ++ ((Look x KeyOf, KeyIs on.found) ∷ (Look x (EdgeOn Left), EdgeIs reads.0)
            ∷ (Look x (EdgeOn Right), EdgeIs reads.1) ∷ rest)) longer.are ∙ append_assoc old longer.entries _))

        tag_on : (d : Side) → (edge_on d reads.0 reads.1).slot ≢ 0 → (edge_on d reads.0 reads.1).tag ≡ true
            → (edge (after_in c ts).state.memory x d).tag ≡ true
        tag_on Left = tag_there L enough w ts keys c o calm (longer.entries ++ (Look x KeyOf, KeyIs on.found) ∷ []) x
            Left reads.0 ((Look x (EdgeOn Right), EdgeIs reads.1) ∷ rest) (part ∙ two longer.entries _ _) reached
        tag_on Right = tag_there L enough w ts keys c o calm
            ((longer.entries ++ (Look x KeyOf, KeyIs on.found) ∷ []) ++ (Look x (EdgeOn Left), EdgeIs reads.0) ∷ []) x
            Right reads.1 rest (part ∙ (two longer.entries _ _
            ∙ two (longer.entries ++ (Look x KeyOf, KeyIs on.found) ∷ []) _ _)) reached

        on_side : (d : Side) → (edge_on d reads.0 reads.1).slot ≡ child c.state.memory x d
        on_side Left = look_there L enough w ts keys c o calm (longer.entries ++ (Look x KeyOf, KeyIs on.found) ∷ [])
            x Left reads.0 ((Look x (EdgeOn Right), EdgeIs reads.1) ∷ rest) (part ∙ two longer.entries _ _) reached
        on_side Right = look_there L enough w ts keys c o calm
            ((longer.entries ++ (Look x KeyOf, KeyIs on.found) ∷ []) ++ (Look x (EdgeOn Left), EdgeIs reads.0) ∷ []) x
            Right reads.1 rest (part ∙ (two longer.entries _ _
            ∙ two (longer.entries ++ (Look x KeyOf, KeyIs on.found) ∷ []) _ _)) reached

  -- where a walk stands, as a path in the tree that stays
  pub record OnPath (k n : ℕ) (s : SeekRecord) : Type 0 where
    pub sides : List Side
    pub size : length sides ≡ n + 2
    pub ends : follow (child c.state.memory) 1 sides ≡ s.edge.slot
    pub is_slot : s.edge.slot ≢ 0
    pub goes : k < infinity_1 → GoesBy (child c.state.memory) (key c.state.memory) k 1 sides

  pub walk_path : (k n : ℕ) (old new : List Entry) (s : SeekRecord) (chain : List ChainEdge)
      → Walks k n old new s chain → (rest : List Entry) → old ++ part_of w (trace_in c ts) ≡ new ++ rest → OnPath k n s
  walk_path k zero old new s chain h rest whole = record {
    sides = Left ∷ Left ∷ [];
    size = refl;
    ends = ap (λ (x : ℕ). child c.state.memory x Left) at_second ∙ sym told;
    is_slot = h.2;
    goes = λ low. (
      ap (side_of k) o.law.fixed.root ∙ left_if k infinity_2 (omega (arith, low)),
      (
        ap (λ (x : ℕ). side_of k (key c.state.memory x)) at_second
            ∙ (ap (side_of k) o.law.fixed.second ∙ left_if k infinity_1 low),
        tt,
      ),
    );
  }
    where
      part : part_of w (trace_in c ts) ≡ (Look 2 (EdgeOn Left), EdgeIs s.edge) ∷ rest
      part = append_cancel_left old _ _ (whole ∙ (ap (λ (l : List Entry). l ++ rest) h.3
          ∙ append_assoc old ((Look 2 (EdgeOn Left), EdgeIs s.edge) ∷ []) rest))

      told : s.edge.slot ≡ child c.state.memory 2 Left
      told = look_there L enough w ts keys c o calm [] 2 Left s.edge rest part
          (record { path = Left ∷ []; ends = at_second; is_slot = λ z. absurd (omega (arith, z)) })
  walk_path k (suc n) old new s chain (mid, t, d, on, walk, some, reads, is, more) rest whole =
      onward (walk_path k n old mid t d walk _ (behind_read k t.edge.slot old mid new on reads rest whole))
    where
      onward : OnPath k n t → OnPath k (suc n) s
      onward p = record {
        sides = p.sides ++ on.side ∷ [];
        size = length-append p.sides (on.side ∷ []) ∙ (let size = p.size in omega (arith, size));
        ends = follow-append (child c.state.memory) 1 p.sides (on.side ∷ [])
            ∙ (ap (λ (x : ℕ). child c.state.memory x on.side) p.ends
            ∙ (sym told.leads ∙ ap (λ (e : Edge). e.slot) (sym edge_is)));
        is_slot = λ z. some (ap (λ (e : Edge). e.slot) (sym edge_is) ∙ z);
        goes = λ low. goes-append (child c.state.memory) (key c.state.memory) k 1 p.sides (on.side ∷ []) (p.goes low) (
          ap (λ (x : ℕ). side_of k (key c.state.memory x)) p.ends
              ∙ (ap (side_of k) (sym told.key_is) ∙ sym reads.3),
          tt,
        );
      }
        where
          edge_is : s.edge ≡ on.next
          edge_is = ap (λ (s : SeekRecord). s.edge) is ∙ onto_edge t on.side on.next

          told : IsRead t.edge.slot on
          told = read_there k t.edge.slot old mid new on reads rest whole (walk_longer k n old mid t d walk)
              (record { path = p.sides; ends = p.ends; is_slot = p.is_slot })

  -- so none is as long as there are slots
  pub not_too_long : (k : ℕ) (old new : List Entry) → IsTooLong L k old new → old ++ part_of w (trace_in c ts) ≡ new → ⊥
  not_too_long k old new (plain, n, s, chain, walk, long) whole = by
      (walk_path k n old new s chain walk [] (whole ∙ sym (append-nil new)))
    where
      by : OnPath k n s → ⊥
      by p =
          let all = long_path L enough c o p.sides (λ z. p.is_slot (sym p.ends ∙ z)) in
          let size = p.size in
          let nodes = ap (λ (M : Layout). M.nodes) (layout_is L enough c o) in
          absurd (omega (arith, all, size, nodes, long))

-- ---- parts of a log behind one another

pub lost_longer : (M : Layout) (k t : ℕ) (old new : List Entry) → LostWalks M k t old new → Longer old new
lost_longer M k zero old new is = record { entries = []; are = is ∙ sym (append-nil old) }
lost_longer M k (suc t) old new h = longer_then old h.0 new (lost_longer M k t old h.0 h.1)
    (walk_longer k h.2.1 h.0 new h.2.2 h.2.3 h.2.4)

module _ (L : Layout) (enough : 5 ≤ L.nodes) (w : ℕ) where
  -- entries that change no edge, as the worker can add them only where somebody links or cuts off a
  -- node meanwhile
  pub record HasInterference (old new : List Entry) : Type 0 where
    pub plain : Plain old new
    pub never : (c : Configuration) → IsOrdered L c → (ts : List (ℕ × Event)) → All (λ t. HasKey t.1) ts
        → number_of is_reshape (trace_in c ts) ≡ 0 → old ++ part_of w (trace_in c ts) ≡ new → ⊥

  -- so many such parts, one behind the other
  abbrev pub Strays : ℕ → List Entry → List Entry → Type 0
  Strays zero old new = Longer old new
  Strays (suc t) old new = (mid : List Entry) × Strays t old mid × HasInterference mid new

  pub strays_longer : (t : ℕ) (old new : List Entry) → Strays t old new → Longer old new
  strays_longer zero old new h = h
  strays_longer (suc t) old new h = longer_then old h.0 new (strays_longer t old h.0 h.1)
      (plain_longer h.0 new h.2.plain)

  -- then another does
  pub by_others : (c : Configuration) (ts : List (ℕ × Event)) (old new : List Entry) → Plain old new
      → (number_of is_reshape (trace_in c ts) ≡ 0 → ⊥) → old ++ part_of w (trace_in c ts) ≡ new
      → 1 ≤ number_of (reshapes_of_others w) (trace_in c ts)
  by_others c ts old new plain never whole = by (number_of (reshapes_of_others w) (trace_in c ts)) refl
    where
      quiet : list_any is_loud (part_of w (trace_in c ts)) ≡ false
      quiet = ap (list_any is_loud) (append_cancel_left old _ _ (whole ∙ plain.are)) ∙ plain.quiet

      by : (n : ℕ) → number_of (reshapes_of_others w) (trace_in c ts) ≡ n
          → 1 ≤ number_of (reshapes_of_others w) (trace_in c ts)
      by zero none = absurd (never (nobody w (trace_in c ts)
          (none_of_log w (λ (e : Entry). reshapes e.0 (Ok e.1)) (trace_in c ts)
          (quiet_shape (part_of w (trace_in c ts)) quiet)) ∙ none))
      by (suc n) some = omega (arith, some)

  pub one_interference : (c : Configuration) (o : IsOrdered L c) (ts : List (ℕ × Event))
      (keys : All (λ t. HasKey t.1) ts) (old new : List Entry) → HasInterference old new
      → old ++ part_of w (trace_in c ts) ≡ new → 1 ≤ number_of (reshapes_of_others w) (trace_in c ts)
  one_interference c o ts keys old new interference whole = by_others c ts old new interference.plain
      (λ calm. interference.never c o ts keys calm whole) whole

  pub all_interference : (t : ℕ) (c : Configuration) → IsOrdered L c → (ts : List (ℕ × Event))
      → All (λ t. HasKey t.1) ts → (old new : List Entry) → Strays t old new → old ++ part_of w (trace_in c ts) ≡ new
      → t ≤ number_of (reshapes_of_others w) (trace_in c ts)
  all_interference zero c o ts keys old new strays whole = omega arith
  all_interference (suc t) c o ts keys old new (mid, strays, last) whole = counted
      (split_part w before.entries c ts last.plain.entries part) (all_interference t c o)
    where
      before : Longer old mid
      before = strays_longer t old mid strays

      part : part_of w (trace_in c ts) ≡ before.entries ++ last.plain.entries
      part = append_cancel_left old _ _ (whole ∙ (last.plain.are
          ∙ (ap (λ (l : List Entry). l ++ last.plain.entries) before.are
          ∙ append_assoc old before.entries last.plain.entries)))

      counted : SplitPart w c ts before.entries last.plain.entries
          → ((us : List (ℕ × Event)) → All (λ t. HasKey t.1) us → (old new : List Entry) → Strays t old new
          → old ++ part_of w (trace_in c us) ≡ new → t ≤ number_of (reshapes_of_others w) (trace_in c us))
          → suc t ≤ number_of (reshapes_of_others w) (trace_in c ts)
      counted s rest =
          let all = subst (λ (l : List (ℕ × Event)). All (λ t. HasKey t.1) l) s.is_run keys in
          let first = first_keys s.before s.since all in
          let later = later_keys s.before s.since all in
          let most = rest s.before first old mid strays
          (ap (λ (l : List Entry). old ++ l) s.is_before ∙ sym before.are) in
          let one = one_interference (after_in c s.before) (ordered_after w L enough s.before first c o) s.since
          later mid new last (ap (λ (l : List Entry). mid ++ l) s.is_since ∙ sym last.plain.are) in
          let run = ap (λ (l : List (ℕ × Event)). number_of (reshapes_of_others w) (trace_in c l)) s.is_run in
          let parts = ap (number_of (reshapes_of_others w)) (trace_in-append c s.before s.since)
          ∙ number-append (reshapes_of_others w) (trace_in c s.before) (trace_in (after_in c s.before) s.since) in
          omega (arith, most, one, run, parts)

  -- a walk that is too long is such a part
  pub long_interference : (k : ℕ) (old new : List Entry) → IsTooLong L k old new → HasInterference old new
  long_interference k old new long = record {
    plain = walk_plain k long.1 old new long.2 long.3 long.4;
    never = λ c o
        ts keys calm whole. not_too_long L enough w c o ts keys calm k old new long whole;
  }

  pub lost_strays : (k t : ℕ) (old new : List Entry) → LostWalks L k t old new → Strays t old new
  lost_strays k zero old new is = lost_longer L k zero old new is
  lost_strays k (suc t) old new h = (h.0, lost_strays k t old h.0 h.1, long_interference k h.0 new h.2)
