-- A cleanup behind a walk is lost only if another worker changes an edge meanwhile. So it interferes
-- its worker, whether it wins its splice or loses it.
use Rattle.std.proofs.Common.{◌≡◌, ◌≢◌, ℕ, zero, suc, ◌+◌, ◌*◌, ◌<◌, ◌≤◌, inl, inr, ◌⊎◌, ◌==◌, Bool, true, false, cond, not, ◌&&◌, ◌||◌, List, length, [], ◌∷◌, ◌++◌, append_assoc, refl, sym, ap, subst, ◌∙◌, arith, true≢false}
use Rattle.std.specs.Prelude.{Some, Result, Ok, Err, All}
use Rattle.std.specs.List.{list_any}
use Rattle.std.proofs.lemmas.Bool.{eq-eqb, ne_eqb, or_parts}
use Rattle.std.proofs.lemmas.List.{append-nil, append_cancel_left}
use Rattle.std.proofs.lemmas.List.Folds.{list_any-append}
use Rattle.nm_edge.specs.Edges.{Edge}
use Rattle.nm_edge.specs.Layouts.{Layout}
use Rattle.nm_edge.specs.declared.edge.Side.{Side}
use Rattle.nm_edge.specs.declared.edge.Side.TheVariants.{Left, Right}
use Rattle.nm_edge.specs.declared.node.NodeId.{NodeId}
use Rattle.nm_model.specs.declared.event.Event.{Event}
use Rattle.nm_model.specs.declared.event.Event.TheVariants.{Sight, Link, Look, Flag, Tag, Splice, Swap}
use Rattle.nm_model.specs.declared.event.Field.TheVariants.{Key as KeyOf, Edge as EdgeOn}
use Rattle.nm_model.specs.declared.reply.Refused.{Refused}
use Rattle.nm_model.specs.declared.reply.Reply.{Reply}
use Rattle.nm_model.specs.declared.reply.Reply.TheVariants.{EdgeIs, Flagged, KeyIs, Was, Cut, Labelled}
use Rattle.nm_model.specs.declared.trace.Turn.{Turn}
use Rattle.nm_model.specs.Knowledge.{Knowledge}
use Rattle.nm_model.specs.Memory.{child}
use Rattle.nm_model.specs.Ordered.{Configuration, ordered, next_in, outcome_in, after_in, trace_in}
use Rattle.nm_model.specs.Paths.{follow}
use Rattle.nm_model.specs.Runs.{of}
use Rattle.nm_model.specs.Searches.{is_side}
use Rattle.nm_model.specs.Walks.{Entry, begins_anew, logged_by}
use Rattle.nm_laws.proofs.Pictures.{alone as one_place}
use Rattle.nm_laws.proofs.TreeSteps.{Lawful}
use Rattle.nm_laws.proofs.Views.{picture}
use Rattle.nm_order.specs.Intervals.{HasKey}
use Rattle.nm_order.specs.Logs.{is_leaver, part_of, known_after, known_by, IsLogOf}
use Rattle.nm_order.proofs.OrderedLaws.{IsOrdered, each_ordered, law_of_state}
use Rattle.nm_order.proofs.RunExchanges.{first_keys}
use Rattle.nm_order.proofs.WalksOfRuns.{trace_in-append}
use Rattle.nm_steps.specs.Steps.{PassView, IsSamePass, HasSeen, HasSeenAllOf}
use Rattle.nm_calls.specs.PlainWalks.{events_of}
use Rattle.nm_calls.proofs.PlainLooks.{as_events}
use Rattle.nm_progress.specs.Lost.{WasChanged}
use Rattle.nm_progress.proofs.LostPins.{keys_seen, part_added, turns_between}
use Rattle.nm_order.proofs.PartsOfRuns.{logs_tell}
use Rattle.nm_walks.specs.declared.seek_record.ChainEdge.{ChainEdge}
use Rattle.nm_walks.specs.declared.seek_record.SeekRecord.{SeekRecord}
use Rattle.nm_walks.specs.Cleanups.{CleanupLost, CleanupWon}
use Rattle.nm_walks.specs.Walks.{Walks}
use Rattle.nm_progress.specs.Changes.{is_bare, is_change}
use Rattle.nm_progress.specs.Changes.Expects.{ToCut}
use Rattle.nm_progress.specs.Moves.{number_of}
use Rattle.nm_progress.specs.Paid.{links_on, flags_on, cuts_on, tags_on, links_in, flags_in}
use Rattle.nm_progress.specs.Tries.{changes_edge, interferes, changes_of_others, reading, losing, LosesTries}
use Rattle.nm_progress.specs.Tries.LosesTries.{NoTry, OneTry}
use Rattle.nm_progress.proofs.CountedTries.{hindrances_are_paid, known_longer, lost_count, others_interfere}
use Rattle.nm_progress.proofs.Covers.{one_if}
use Rattle.nm_progress.proofs.Interfered.{Interferes, Ran, ran_on}
use Rattle.nm_progress.proofs.LostTries.{later_keys}
use Rattle.nm_progress.proofs.MarkedReads.{IsMarked, AncestorRead, marked_high, walk_ancestor, some_kept, onto_along, onto_beside, chooses_plain, freezes_plain, help_between}
use Rattle.nm_progress.proofs.MoreTries.{is_loud, none_within, Plain, log_prefix, quiet_pins, quiet_edges}
use Rattle.nm_progress.proofs.Parts.{Longer, longer_these, longer_then, plain_longer, walk_longer, prepared_longer, cleanup_longer}
use Rattle.nm_progress.proofs.Reshapes.{is_reshape}
use Rattle.nm_progress.proofs.SplitTurns.{ordered_after, part_teaches, number-append}
use Rattle.nm_progress.proofs.WalkInterference.{SplitPart, split_part, walk_plain, OnPath, behind_read, walk_path}
use Rattle.nm_progress.proofs.WalkReads.{onto_parent}

-- ---- entries and turns that change no edge

abbrev pub is_edge_change : Entry → Bool
is_edge_change e = changes_edge e.0 (Ok e.1)

pub quiet_mute : (es : List Entry) → list_any is_loud es ≡ false → list_any is_edge_change es ≡ false
quiet_mute = none_within is_loud is_edge_change (λ e quiet.
    (or_parts (begins_anew e) (changes_edge e.0 (Ok e.1)) quiet).1)

abbrev pub changes_turn : Turn → Bool
changes_turn t = changes_edge t.event t.outcome

pub none_refused : (e : Event) (x : Refused) → changes_edge e (Err x) ≡ false
none_refused (Link a b f g) x = refl
none_refused (Flag a b f) x = refl
none_refused (Tag a b) x = refl
none_refused (Splice a b f g h) x = refl
none_refused (Swap a b f g) x = refl
none_refused e x = refl

-- fewer turns interfere a worker than change an edge
pub interferes_too : (w : ℕ) (turns : List Turn) → number_of (interferes w) turns ≤ number_of changes_turn turns
interferes_too w [] = omega arith
interferes_too w (t ∷ ts) = by (t.worker == w) (links_on t.event t.outcome) (flags_on t.event t.outcome)
    (cuts_on t.event t.outcome) (tags_on t.event t.outcome) (interferes_too w ts)
  where
    by : (o a b c d : Bool) → number_of (interferes w) ts ≤ number_of changes_turn ts
        → cond (cond o c (a || (b || (c || d)))) 1 0 + number_of (interferes w) ts
        ≤ cond (a || (b || (c || d))) 1 0 + number_of changes_turn ts
    by false a b c d rest = omega (arith, rest)
    by true true b true d rest = omega (arith, rest)
    by true true b false d rest = omega (arith, rest)
    by true false true true d rest = omega (arith, rest)
    by true false true false d rest = omega (arith, rest)
    by true false false true d rest = omega (arith, rest)
    by true false false false true rest = omega (arith, rest)
    by true false false false false rest = omega (arith, rest)

-- fewer turns reshape the tree than change an edge
pub calm_too : (turns : List Turn) → number_of is_reshape turns ≤ number_of changes_turn turns
calm_too [] = omega arith
calm_too (t ∷ ts) = by (links_on t.event t.outcome) (flags_on t.event t.outcome) (cuts_on t.event t.outcome)
    (tags_on t.event t.outcome) (calm_too ts)
  where
    by : (a b c d : Bool) → number_of is_reshape ts ≤ number_of changes_turn ts
        → cond (a || c) 1 0 + number_of is_reshape ts ≤ cond (a || (b || (c || d))) 1 0 + number_of changes_turn ts
    by true b c d rest = omega (arith, rest)
    by false true true d rest = omega (arith, rest)
    by false true false d rest = omega (arith, rest)
    by false false true d rest = omega (arith, rest)
    by false false false true rest = omega (arith, rest)
    by false false false false rest = omega (arith, rest)

-- ---- turns of one worker alone

none_own : (b : Bool) (x : Bool) → b ≡ true → (not b && x) ≡ false
none_own true x is = refl
none_own false x is = absurd (true≢false (sym is))

-- none of them is a change by another
pub own_trace : (w : ℕ) (ts : List (ℕ × Event)) (c : Configuration) → All (λ t. t.0 ≡ w) ts
    → number_of (changes_of_others w) (trace_in c ts) ≡ 0
unfolding trace_in
own_trace w [] c own = refl
own_trace w (t ∷ ts) c own =
    let rest = own_trace w ts (next_in c t) (λ i d below. own (suc i) d (omega (arith, below))) in
    let one = ap one_if (none_own (t.0 == w) (changes_edge t.1 (outcome_in c t))
    (eq-eqb t.0 w (own 0 t (omega arith)))) in
    omega (arith, rest, one)

-- ---- turns in which no other worker changes an edge

abbrev pub ByOthers : ℕ → Configuration → List (ℕ × Event) → ℕ
ByOthers w c ts = number_of (changes_of_others w) (trace_in c ts)

pub calm_parts : (w : ℕ) (c : Configuration) (ts xs ys : List (ℕ × Event)) → ts ≡ xs ++ ys → ByOthers w c ts ≡ 0
    → (ByOthers w c xs ≡ 0) × (ByOthers w (after_in c xs) ys ≡ 0)
calm_parts w c ts xs ys is calm =
    let sum = ap (λ (l : List (ℕ × Event)). ByOthers w c l) is
    ∙ (ap (number_of (changes_of_others w)) (trace_in-append c xs ys)
    ∙ number-append (changes_of_others w) (trace_in c xs) (trace_in (after_in c xs) ys)) in
    (omega (arith, sum, calm), omega (arith, sum, calm))

-- so none does, if the worker's own part does not either
pub mute_calm : (w : ℕ) (ts : List (ℕ × Event)) (c : Configuration) → ByOthers w c ts ≡ 0
    → list_any is_edge_change (part_of w (trace_in c ts)) ≡ false → number_of changes_turn (trace_in c ts) ≡ 0
unfolding trace_in
mute_calm w [] c calm mute = refl
mute_calm w (t ∷ ts) c calm mute = go (t.0 == w) (is_leaver w t.1) (outcome_in c t) calm mute
    (mute_calm w ts (next_in c t))
  where
    Rest : Type 0
    Rest = number_of (changes_of_others w) (trace_in (next_in c t) ts) ≡ 0
        → list_any is_edge_change (part_of w (trace_in (next_in c t) ts)) ≡ false
        → number_of changes_turn (trace_in (next_in c t) ts) ≡ 0

    go : (own leaver : Bool) (o : Result Reply Refused)
        → cond (not own && changes_edge t.1 o) 1 0 + number_of (changes_of_others w) (trace_in (next_in c t) ts) ≡ 0
        → list_any is_edge_change (cond (own || leaver)
        (logged_by (record { worker = t.0; event = t.1; outcome = o })) []
        ++ part_of w (trace_in (next_in c t) ts)) ≡ false
        → Rest → cond (changes_edge t.1 o) 1 0 + number_of changes_turn (trace_in (next_in c t) ts) ≡ 0
    go true leaver (Ok r) calm mute rest =
        let parts = or_parts (changes_edge t.1 (Ok r))
        (list_any is_edge_change (part_of w (trace_in (next_in c t) ts))) mute in
        let same = rest (omega (arith, calm)) parts.1 in
        let zero_is = ap one_if parts.0 in
        omega (arith, same, zero_is)
    go true leaver (Err x) calm mute rest =
        let same = rest (omega (arith, calm)) mute in
        let zero_is = ap one_if (none_refused t.1 x) in
        omega (arith, same, zero_is)
    go false false o calm mute rest =
        let same = rest (omega (arith, calm)) mute in
        omega (arith, same, calm)
    go false true (Ok r) calm mute rest =
        let parts = or_parts (changes_edge t.1 (Ok r))
        (list_any is_edge_change (part_of w (trace_in (next_in c t) ts))) mute in
        let same = rest (omega (arith, calm)) parts.1 in
        omega (arith, same, calm)
    go false true (Err x) calm mute rest =
        let same = rest (omega (arith, calm)) mute in
        omega (arith, same, calm)

-- ---- entries that change edges of one node alone

pub record OnlyAt (p : ℕ) (old new : List Entry) : Type 0 where
  pub entries : List Entry
  pub are : new ≡ old ++ entries
  pub pins : list_any begins_anew entries ≡ false
  pub still : (x : ℕ) (d : Side) → p ≢ x → list_any (is_change x d) entries ≡ false

pub only_plain : (p : ℕ) (old new : List Entry) → Plain old new → OnlyAt p old new
only_plain p old new h = record {
  entries = h.entries;
  are = h.are;
  pins = quiet_pins h.entries h.quiet;
  still = λ x
      d other. quiet_edges x d h.entries h.quiet;
}

pub only_then : (p : ℕ) (old mid new : List Entry) → OnlyAt p old mid → OnlyAt p mid new → OnlyAt p old new
only_then p old mid new a b = record {
  entries = a.entries ++ b.entries;
  are = b.are ∙ (ap (λ (l : List Entry). l ++ b.entries) a.are ∙ append_assoc old a.entries b.entries);
  pins = list_any-append begins_anew a.entries b.entries
      ∙ (ap (λ (x : Bool). x || list_any begins_anew b.entries) a.pins ∙ b.pins);
  still = λ x d other. list_any-append (is_change x d) a.entries b.entries
      ∙ (ap (λ (z : Bool). z || list_any (is_change x d) b.entries) (a.still x d other) ∙ b.still x d other);
}

pub only_flag : (p : ℕ) (side : Side) (leaf : ℕ) (n : NodeId) (old new : List Entry)
    → new ≡ old ++ (Flag p side leaf, Flagged n) ∷ [] → OnlyAt p old new
only_flag p side leaf n old new is = record {
  entries = (Flag p side leaf, Flagged n) ∷ [];
  are = is;
  pins = refl;
  still = λ x d other. ap (λ (b : Bool). (b && is_side side d) || false) (ne_eqb p x other);
}

pub only_tag : (p : ℕ) (side : Side) (was : Edge) (old new : List Entry) → new ≡ old ++ (Tag p side, Was was) ∷ []
    → OnlyAt p old new
only_tag p side was old new is = record {
  entries = (Tag p side, Was was) ∷ [];
  are = is;
  pins = refl;
  still = λ x d other. ap (λ (b : Bool). ((b && is_side side d) && is_bare was) || false) (ne_eqb p x other);
}

-- ---- the ancestor of a walk stands above its parent

module _ (L : Layout) (enough : 5 ≤ L.nodes) (w : ℕ) (c : Configuration) (o : IsOrdered L c) (ts : List (ℕ × Event))
    (keys : All (λ t. HasKey t.1) ts) (calm : number_of is_reshape (trace_in c ts) ≡ 0) where
  -- the paths to both
  record TwoPaths (n : ℕ) (s : SeekRecord) : Type 0 where
    low : List Side
    size : length low ≡ n + 1
    leads : follow (child c.state.memory) 1 low ≡ s.parent
    is_slot : s.parent ≢ 0
    high : List Side
    less : length high < n + 1
    begins : follow (child c.state.memory) 1 high ≡ s.ancestor

  two_paths : (k n : ℕ) (old new : List Entry) (s : SeekRecord) (chain : List ChainEdge) → Walks k n old new s chain
      → (rest : List Entry) → old ++ part_of w (trace_in c ts) ≡ new ++ rest → TwoPaths n s
  two_paths k zero old new s chain h rest whole = record {
    low = Left ∷ [];
    size = refl;
    leads = (law_of_state L enough c o).1.tree.root_left ∙ sym (ap (λ (s : SeekRecord). s.parent) h.0);
    is_slot = λ z. absurd (let two = ap (λ (s : SeekRecord). s.parent) h.0 in omega (arith, z, two));
    high = [];
    less = omega arith;
    begins = sym (ap (λ (s : SeekRecord). s.ancestor) h.0);
  }
  two_paths k (suc n) old new s chain (mid, t, d, on, walk, some, reads, is, more) rest whole = by t.edge.tag refl
      (two_paths k n old mid t d walk _ behind)
    where
      behind : old ++ part_of w (trace_in c ts) ≡ mid
          ++ ((Look t.edge.slot KeyOf, KeyIs on.found) ∷ (Look t.edge.slot (EdgeOn Left), EdgeIs reads.0)
          ∷ (Look t.edge.slot (EdgeOn Right), EdgeIs reads.1) ∷ rest)
      behind = behind_read L enough w c o ts keys calm k t.edge.slot old mid new on reads rest whole

      path : OnPath L enough w c o ts keys calm k n t
      path = walk_path L enough w c o ts keys calm k n old mid t d walk _ behind

      parent : s.parent ≡ t.edge.slot
      parent = ap (λ (s : SeekRecord). s.parent) is ∙ onto_parent t on.side on.next

      by : (b : Bool) → t.edge.tag ≡ b → TwoPaths n t → TwoPaths (suc n) s
      by true tag p = record {
        low = path.sides;
        size = (let size = path.size in omega (arith, size));
        leads = path.ends ∙ sym parent;
        is_slot = λ z. path.is_slot (sym parent ∙ z);
        high = p.high;
        less = (let less = p.less in omega (arith, less));
        begins = p.begins ∙ sym (ap (λ (s : SeekRecord). s.ancestor) is ∙ (onto_along t on.side on.next tag).0);
      }
      by false tag p = record {
        low = path.sides;
        size = (let size = path.size in omega (arith, size));
        leads = path.ends ∙ sym parent;
        is_slot = λ z. path.is_slot (sym parent ∙ z);
        high = p.low;
        less = (let size = p.size in omega (arith, size));
        begins = p.leads ∙ sym (ap (λ (s : SeekRecord). s.ancestor) is ∙ (onto_beside t on.side on.next tag).0);
      }

  ancestor_apart : (k n : ℕ) (old new : List Entry) (s : SeekRecord) (chain : List ChainEdge)
      → Walks k n old new s chain → old ++ part_of w (trace_in c ts) ≡ new → s.parent ≢ s.ancestor
  ancestor_apart k n old new s chain walk whole same = by
      (two_paths k n old new s chain walk [] (whole ∙ sym (append-nil new)))
    where
      law : (h : ℕ → ℕ) × Lawful c.state h
      law = law_of_state L enough c o

      by : TwoPaths n s → ⊥
      by p =
          let one = one_place c.state.layout.nodes (picture c.state law.0) law.1.tree p.low p.high
          (λ z. p.is_slot (sym p.leads ∙ z)) (p.leads ∙ (same ∙ sym p.begins)) in
          let sizes = ap (λ (l : List Side). length l) one in
          let size = p.size in
          let less = p.less in
          omega (arith, sizes, size, less)

-- ---- what a worker adds to its log only if another one changes an edge meanwhile

module _ (L : Layout) (enough : 5 ≤ L.nodes) (w : ℕ) where
  pub record NeedsOthers (old new : List Entry) : Type 0 where
    pub entries : List Entry
    pub are : new ≡ old ++ entries
    pub never : (c : Configuration) → IsOrdered L c → of c.state w ≡ known_by L w old → Ran L enough w old c
        → (ts : List (ℕ × Event)) → All (λ t. HasKey t.1) ts → ByOthers w c ts ≡ 0
        → part_of w (trace_in c ts) ≡ entries → ⊥

  -- nor so within more entries
  pub never_within : (old begun ended new : List Entry) → Longer old begun → NeedsOthers begun ended
      → Longer ended new → NeedsOthers old new
  never_within old begun ended new a h b = record {
    entries = a.entries ++ (h.entries ++ b.entries);
    are = b.are ∙ (ap (λ (l : List Entry). l ++ b.entries) (h.are ∙ ap (λ (l : List Entry). l ++ h.entries) a.are)
        ∙ (append_assoc (old ++ a.entries) h.entries b.entries ∙ append_assoc old a.entries (h.entries ++ b.entries)));
    never = λ c o knowing ran ts keys calm is. outer c o knowing ran ts keys calm
        (split_part w a.entries c ts (h.entries ++ b.entries) is);
  }
    where
      outer : (c : Configuration) → IsOrdered L c → of c.state w ≡ known_by L w old → Ran L enough w old c
          → (ts : List (ℕ × Event)) → All (λ t. HasKey t.1) ts → ByOthers w c ts ≡ 0
          → SplitPart w c ts a.entries (h.entries ++ b.entries) → ⊥
      outer c o knowing ran ts keys calm s = inner (split_part w h.entries (after_in c s.before) s.since b.entries
          s.is_since)
        where
          all : All (λ t. HasKey t.1) (s.before ++ s.since)
          all = subst (λ (l : List (ℕ × Event)). All (λ t. HasKey t.1) l) s.is_run keys

          quiet : (ByOthers w c s.before ≡ 0) × (ByOthers w (after_in c s.before) s.since ≡ 0)
          quiet = calm_parts w c ts s.before s.since s.is_run calm

          first : All (λ t. HasKey t.1) s.before
          first = first_keys s.before s.since all

          known : of (after_in c s.before).state w ≡ known_by L w begun
          known = part_teaches w L enough s.before c o
              ∙ (ap (known_after w (of c.state w)) s.is_before
              ∙ (ap (λ (k : Knowledge). known_after w k a.entries) knowing
              ∙ (sym (known_longer w _ old a.entries) ∙ ap (known_by L w) (sym a.are))))

          inner : SplitPart w (after_in c s.before) s.since h.entries b.entries → ⊥
          inner r = h.never (after_in c s.before) (ordered_after w L enough s.before first c o) known
              (subst (λ (l : List Entry). Ran L enough w l (after_in c s.before)) (sym a.are)
              (ran_on L enough w old a.entries c ran s.before first s.is_before)) r.before
              (first_keys r.before r.since (subst (λ (l : List (ℕ × Event)). All (λ t. HasKey t.1) l) r.is_run
              (later_keys s.before s.since all)))
              (calm_parts w (after_in c s.before) s.since r.before r.since r.is_run quiet.1).0 r.is_before

  -- a lost cleanup behind a walk that came by an edge which now has a mark
  pub never_lost : (k n : ℕ) (old walked start new : List Entry) (s : SeekRecord) (chain : List ChainEdge)
      → Walks k n old walked s chain → OnlyAt s.parent walked start
      → IsMarked L enough w start s.parent s.side s.edge.slot
      → CleanupLost s chain start new → IsLogOf L w start → IsLogOf L w new → NeedsOthers old new
  never_lost k n old walked start new s chain walk only marked (inl none) before l = absurd
      (some_kept L enough w s start new l marked none)
  never_lost k n old walked start new s chain walk only marked
      (inr (kept, mid, e, (chosen, was, chooses, freezes), is)) before l = by
      (walk_ancestor L enough w k n old walked s chain walk walked_log)
    where
      walked_log : IsLogOf L w walked
      walked_log = log_prefix L w walked only.entries (subst (IsLogOf L w) only.are before)

      between : OnlyAt s.parent walked mid
      between = only_then s.parent walked start mid only
          (only_then s.parent start chosen mid (only_plain s.parent start chosen
          (chooses_plain L enough w s (Some kept) start chosen chooses))
          (only_then s.parent chosen _ mid (only_tag s.parent kept.side was chosen _ refl)
          (only_plain s.parent _ mid (freezes_plain L enough w s.parent kept.side chain _ mid freezes))))

      plain : Plain old walked
      plain = walk_plain k n old walked s chain walk

      cut : Entry
      cut = losing (Splice s.ancestor s.above s.successor s.parent kept.side) e

      by : AncestorRead L enough w old walked s ⊎ (s.parent ≡ 2) → NeedsOthers old new
      by (inr root) = let high = marked_high L enough w start s.parent s.side s.edge.slot before marked in
          absurd (omega (arith, high, root))
      by (inl r) = record { entries = all; are = are; never = never }
        where
          first_look : Entry
          first_look = reading s.ancestor s.above s.successor

          all : List Entry
          all = r.first ++ first_look ∷ ((r.tail ++ between.entries) ++ cut ∷ [])

          joined : ((old ++ (r.first ++ first_look ∷ r.tail)) ++ between.entries) ++ cut ∷ [] ≡ old ++ all
          joined = append_assoc (old ++ (r.first ++ first_look ∷ r.tail)) between.entries (cut ∷ [])
              ∙ (append_assoc old (r.first ++ first_look ∷ r.tail) (between.entries ++ cut ∷ [])
              ∙ ap (λ (l : List Entry). old ++ l) (append_assoc r.first (first_look ∷ r.tail)
              (between.entries ++ cut ∷ []) ∙ ap (λ (l : List Entry). r.first ++ first_look ∷ l)
              (sym (append_assoc r.tail between.entries (cut ∷ [])))))

          are : new ≡ old ++ all
          are = is ∙ (ap (λ (l : List Entry). l ++ cut ∷ [])
              (between.are ∙ ap (λ (l : List Entry). l ++ between.entries) r.are) ∙ joined)

          pins : list_any begins_anew (r.tail ++ between.entries) ≡ false
          pins = list_any-append begins_anew r.tail between.entries
              ∙ (ap (λ (b : Bool). b || list_any begins_anew between.entries) (quiet_pins r.tail r.quiet)
              ∙ between.pins)

          still : s.parent ≢ s.ancestor → list_any (is_change s.ancestor s.above) (r.tail ++ between.entries) ≡ false
          still apart = list_any-append (is_change s.ancestor s.above) r.tail between.entries
              ∙ (ap (λ (b : Bool). b || list_any (is_change s.ancestor s.above) between.entries)
              (quiet_edges s.ancestor s.above r.tail r.quiet) ∙ between.still s.ancestor s.above apart)

          -- the walk, and then the rest
          in_two : all ≡ plain.entries ++ (between.entries ++ cut ∷ [])
          in_two = append_cancel_left old _ _ (sym are
              ∙ (is ∙ (ap (λ (l : List Entry). l ++ cut ∷ [])
              (between.are ∙ ap (λ (l : List Entry). l ++ between.entries) plain.are)
              ∙ (append_assoc (old ++ plain.entries) between.entries (cut ∷ [])
              ∙ append_assoc old plain.entries (between.entries ++ cut ∷ [])))))

          never : (c : Configuration) → IsOrdered L c → of c.state w ≡ known_by L w old → Ran L enough w old c
              → (ts : List (ℕ × Event)) → All (λ t. HasKey t.1) ts → ByOthers w c ts ≡ 0
              → part_of w (trace_in c ts) ≡ all → ⊥
          never c o knowing ran ts keys calm parts =
              let some = lost_count L enough w old all 1 (tries
              (apart (split_part w plain.entries c ts (between.entries ++ cut ∷ []) (parts ∙ in_two)))) c o
              knowing ts keys parts in
              omega (arith, some, calm)
            where
              tries : s.parent ≢ s.ancestor → LosesTries L w old all 1
              tries apart = OneTry 0 s.ancestor s.above s.successor r.first (r.tail ++ between.entries) []
                  (Splice s.ancestor s.above s.successor s.parent kept.side) e r.known (ToCut s.parent kept.side) pins
                  (still apart) NoTry

              apart : SplitPart w c ts plain.entries (between.entries ++ cut ∷ []) → s.parent ≢ s.ancestor
              apart p = ancestor_apart L enough w c o p.before
                  (first_keys p.before p.since (subst (λ (l : List (ℕ × Event)). All (λ t. HasKey t.1) l) p.is_run
                  keys)) still_there k n old walked s chain walk
                  (ap (λ (l : List Entry). old ++ l) p.is_before ∙ sym plain.are)
                where
                  still_there : number_of is_reshape (trace_in c p.before) ≡ 0
                  still_there =
                      let none = mute_calm w p.before c (calm_parts w c ts p.before p.since p.is_run calm).0
                      (ap (list_any is_edge_change) p.is_before ∙ quiet_mute plain.entries plain.quiet) in
                      let few = calm_too (trace_in c p.before) in
                      omega (arith, none, few)

  -- ---- entries for which other workers changed edges, counted

  -- in each run in which the log grows so, other workers change edges at least so often meanwhile
  pub record Changed (old new : List Entry) (n : ℕ) : Type 0 where
    pub entries : List Entry
    pub are : new ≡ old ++ entries
    pub counted : (c : Configuration) → IsOrdered L c → of c.state w ≡ known_by L w old → Ran L enough w old c
        → (ts : List (ℕ × Event)) → All (λ t. HasKey t.1) ts → part_of w (trace_in c ts) ≡ entries → n ≤ ByOthers w c ts

  pub changed_none : (old new : List Entry) → Longer old new → Changed old new 0
  changed_none old new l = record {
    entries = l.entries;
    are = l.are;
    counted = λ c o knowing ran ts keys is. omega
        arith;
  }

  pub changed_once : (old new : List Entry) → NeedsOthers old new → Changed old new 1
  changed_once old new h = record {
    entries = h.entries;
    are = h.are;
    counted = λ c o knowing ran ts keys is. by
        (ByOthers w c ts) (h.never c o knowing ran ts keys) is;
  }
    where
      by : {A : Type 0} (n : ℕ) → (n ≡ 0 → A → ⊥) → A → 1 ≤ n
      by zero none is = absurd (none refl is)
      by (suc n) none is = omega arith

  pub changed_then : (old mid new : List Entry) (m n : ℕ) → Changed old mid m → Changed mid new n
      → Changed old new (m + n)
  changed_then old mid new m n a b = record {
    entries = a.entries ++ b.entries;
    are = b.are ∙ (ap (λ (l : List Entry). l ++ b.entries) a.are ∙ append_assoc old a.entries b.entries);
    counted = λ c o knowing ran ts keys is. both c o knowing ran ts keys (split_part w a.entries c ts b.entries is);
  }
    where
      both : (c : Configuration) → IsOrdered L c → of c.state w ≡ known_by L w old → Ran L enough w old c
          → (ts : List (ℕ × Event)) → All (λ t. HasKey t.1) ts → SplitPart w c ts a.entries b.entries
          → m + n ≤ ByOthers w c ts
      both c o knowing ran ts keys s =
          let all = subst (λ (l : List (ℕ × Event)). All (λ t. HasKey t.1) l) s.is_run keys in
          let first = first_keys s.before s.since all in
          let known = part_teaches w L enough s.before c o
          ∙ (ap (known_after w (of c.state w)) s.is_before
          ∙ (ap (λ (k : Knowledge). known_after w k a.entries) knowing
          ∙ (sym (known_longer w _ old a.entries) ∙ ap (known_by L w) (sym a.are)))) in
          let one = a.counted c o knowing ran s.before first s.is_before in
          let two = b.counted (after_in c s.before) (ordered_after w L enough s.before first c o) known
          (subst (λ (l : List Entry). Ran L enough w l (after_in c s.before)) (sym a.are)
          (ran_on L enough w old a.entries c ran s.before first s.is_before)) s.since
          (later_keys s.before s.since all) s.is_since in
          let run = ap (λ (l : List (ℕ × Event)). ByOthers w c l) s.is_run in
          let parts = ap (number_of (changes_of_others w)) (trace_in-append c s.before s.since)
          ∙ number-append (changes_of_others w) (trace_in c s.before) (trace_in (after_in c s.before) s.since) in
          omega (arith, one, two, run, parts)

  -- by a change of another its worker is interfered
  pub changed_interferes : (old new : List Entry) (n : ℕ) → Changed old new n → Interferes L enough w old new n
  changed_interferes old new n h = record {
    entries = h.entries;
    are = h.are;
    counted = λ c o knowing ran ts keys is. (
        let some = h.counted c o knowing ran ts keys is in
        let few = others_interfere w (trace_in c ts) in
        omega (arith, some, few)
        );
  }

  -- entries that change nothing, by which its worker was interfered
  pub never_plain : (old new : List Entry) → Plain old new → Interferes L enough w old new 1 → NeedsOthers old new
  never_plain old new plain h = record {
    entries = h.entries;
    are = h.are;
    never = λ c o knowing ran ts keys calm is. (
        let some = h.counted c o knowing ran ts keys is in
        let few = interferes_too w (trace_in c ts) in
        let same = is ∙ append_cancel_left old _ _ (sym h.are ∙ plain.are) in
        let none = mute_calm w ts c calm (ap (list_any is_edge_change) same ∙ quiet_mute plain.entries plain.quiet) in
        omega (arith, some, few, none)
        );
  }

  -- ---- a whole cleanup

  -- a cleanup behind a walk that came by an edge with a mark interferes its worker, whether it wins its
  -- splice or loses it
  pub cleanup_interferes : (k n : ℕ) (old walked start new : List Entry) (s : SeekRecord) (chain : List ChainEdge)
      → Walks k n old walked s chain → Plain walked start → IsMarked L enough w start s.parent s.side s.edge.slot
      → ((ns : List NodeId) × (epoch : ℕ) × CleanupWon s chain ns epoch start new) ⊎ CleanupLost s chain start new
      → IsLogOf L w new → Interferes L enough w old new 1
  cleanup_interferes k n old walked start new s chain walk plain marked (inr lost) l =
      let further = cleanup_longer s chain start new (inr lost) in
      changed_interferes old new 1 (changed_once old new
      (never_lost k n old walked start new s chain walk (only_plain s.parent walked start plain) marked lost
      (log_prefix L w start further.entries (subst (IsLogOf L w) further.are l)) l))
  cleanup_interferes k n old walked start new s chain walk plain marked (inl (ns, epoch, won)) l = help_between L
      enough w old won.1.1 new (Splice s.ancestor s.above s.successor s.parent won.1.0.side) (Cut ns)
      (longer_then old start won.1.1 (longer_then old walked start (walk_longer k n old walked s chain walk)
      (plain_longer walked start plain)) (prepared_longer s chain won.1.0 start won.1.1 won.1.2))
      (longer_these ((Sight, Labelled epoch) ∷ []) _ new
      (won.2 ∙ ap (λ (l : List Entry). l ++ (Sight, Labelled epoch) ∷ []) won.1.3)) (λ v e. cc) refl

-- ---- between two moments of a pass

pub was_changed : (p q : PassView) (n : ℕ) → HasSeen p.view → HasSeen q.view → (enough : 5 ≤ p.view.layout.nodes)
    → IsSamePass p q → HasSeenAllOf q p → Changed p.view.layout enough p.view.number p.view.log q.view.log n
    → WasChanged p q n
was_changed p q n seen_p seen_q enough same on h = record {
  turns = on.goes_on.more;
  is = on.goes_on.is;
  changed = subst (λ (ts : List Turn). n ≤ number_of (changes_of_others p.view.number) ts)
      (turns_between p q seen_p seen_q same on.goes_on) count;
  paid = subst (λ (ts : List Turn). n ≤ links_in ts + 3 * flags_in ts + 2 * p.view.layout.workers)
      (turns_between p q seen_p seen_q same on.goes_on)
      (let few = others_interfere p.view.number (trace_in (after_in (ordered p.view.layout) (events_of p.view.past))
      (events_of on.goes_on.more)) in
      let most = hindrances_are_paid p.view.layout enough p.view.number (events_of p.view.past)
      (events_of on.goes_on.more) keys in
      omega (arith, count, few, most));
}
  where
    keys : All (λ t. HasKey t.1) ((events_of p.view.past) ++ (events_of on.goes_on.more))
    keys = keys_seen p q seen_p seen_q same on.goes_on

    past_keys : All (λ t. HasKey t.1) (events_of p.view.past)
    past_keys = first_keys (events_of p.view.past) (events_of on.goes_on.more) keys

    count : n ≤ number_of (changes_of_others p.view.number)
        (trace_in (after_in (ordered p.view.layout) (events_of p.view.past)) (events_of on.goes_on.more))
    count = h.counted (after_in (ordered p.view.layout) (events_of p.view.past))
        (each_ordered p.view.layout enough (events_of p.view.past) past_keys)
        (logs_tell p.view.layout (events_of p.view.past) p.view.number seen_p.worker
        ∙ ap (known_by p.view.layout p.view.number) (as_events p.view seen_p).is_part)
        (record {
          past = events_of p.view.past;
          keys = past_keys;
          is = refl;
          is_part =
              (as_events p.view seen_p).is_part;
        }) (events_of on.goes_on.more)
        (later_keys (events_of p.view.past) (events_of on.goes_on.more) keys)
        (part_added p q seen_p seen_q same on.goes_on h.entries h.are)
