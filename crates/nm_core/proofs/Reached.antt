-- What a core has that came from its opening by some events: by the laws of all runs, and of
-- ordered ones.
use Rattle.std.proofs.Common.{◌≡◌, ℕ, ◌+◌, ◌<◌, ◌≤◌, Bool, true, false, List, [], ◌∷◌, ◌++◌, length, take, drop, get_or, refl, sym, ap, subst, ◌∙◌, arith, true≢false}
use Rattle.std.specs.Prelude.{None, is_some, IsSome, All}
use Rattle.std.proofs.lemmas.List.{take_more, take-append-drop}
use Rattle.std.proofs.lemmas.List.Elements.{All-append}
use Rattle.nm_model.specs.declared.event.Event.{Event}
use Rattle.nm_model.specs.Runs.{start}
use Rattle.nm_model.specs.Ordered.{Configuration, HasKey, ordered, opening_of, after_in, trace_in, IsReached}
use Rattle.nm_laws.proofs.Configurations.{keys_more, after_in-append, plain_runs, reached_state}
use Rattle.nm_laws.proofs.Lawful.{reachable_is_lawful}
use Rattle.nm_order.specs.Intervals.{OfEachOrdered, KeysTellTheSet, KeysLieInIntervals, LeavesHaveTheirOwnKeys, WalksStayInOrder, WalksReadKeys}
use Rattle.nm_order.specs.Ranges.{RangesNest, PathsAreShort}
use Rattle.nm_order.proofs.RadixLaws.{each_range_nests, each_path_is_short}
use Rattle.nm_order.proofs.RunExchanges.{first_keys}
use Rattle.nm_order.proofs.OrderedLaws.{each_key_lies, each_leaf_has_its_key, each_walk_stays, each_walk_reads, keys_of_state}
use Rattle.nm_order.proofs.HistoryLaws.{each_run_has_a_history}
use Rattle.nm_order.proofs.WalksOfRuns.{trace_in-append}
use Rattle.nm_model.specs.Headline.{Headline}
use Rattle.nm_theorem.proofs.HeadlineOfRuns.{headline}
use Rattle.nm_core.specs.Pasts.{IsPast, HasPast, HasHeadlineBehind, HasHistoriesBehind, StaysInOrder}

-- the keys of the first turns, and of one more
pub keys_to : (ts : List (ℕ × Event)) (i : ℕ) (t : ℕ × Event) → i < length ts → t ≡ get_or ts i t → HasKey t.1
    → All (λ u. HasKey u.1) (take i ts) → All (λ u. HasKey u.1) (take (i + 1) ts)
keys_to ts i t below is key keys = subst (λ (us : List (ℕ × Event)). All (λ u. HasKey u.1) us)
    (sym (take_more ts i t below ∙ ap (λ (u : ℕ × Event). take i ts ++ u ∷ []) (sym is)))
    (keys_more (take i ts) t keys key)

keys_of_first : (ts : List (ℕ × Event)) (i : ℕ) → All (λ u. HasKey u.1) ts → All (λ u. HasKey u.1) (take i ts)
keys_of_first ts i keys = first_keys (take i ts) (drop i ts)
    (subst (λ (us : List (ℕ × Event)). All (λ u. HasKey u.1) us) (sym (take-append-drop i ts)) keys)

module _ (c : Configuration) (r : IsReached c) where
  enough : 5 ≤ c.state.layout.nodes
  enough = let least = r.fits.least in omega arith

  -- a core that is ordered was so at its opening
  pub has_past : HasPast c
  has_past some = go r.is_ordered refl
    where
      go : (b : Bool) → r.is_ordered ≡ b → (past : List (ℕ × Event)) × IsPast c past
      go true is = (
        r.events,
        record {
          keys = r.keys;
          leads = ap
              (λ (b : Bool). after_in (opening_of c.state.layout b) r.events) (sym is) ∙ r.leads;
        },
      )
      go false is = absurd (true≢false (sym some ∙ ap is_some none))
        where
          none : c.searches ≡ None
          none = sym (ap (λ (d : Configuration). d.searches)
              (ap (λ (b : Bool). after_in (opening_of c.state.layout b) r.events) (sym is) ∙ r.leads))
              ∙ ap (λ (d : Configuration). d.searches) (plain_runs (start c.state.layout) r.events).0

  keys_behind : (past turns : List (ℕ × Event)) → IsPast c past → All (λ u. HasKey u.1) turns → (i : ℕ)
      → All (λ u. HasKey u.1) (past ++ take i turns)
  keys_behind past turns p keys i = All-append (λ (u : ℕ × Event). HasKey u.1) past (take i turns) p.keys
      (keys_of_first turns i keys)

  pub histories_behind : (turns : List (ℕ × Event)) → All (λ u. HasKey u.1) turns → HasHistoriesBehind c turns
  histories_behind turns keys past p i = each_run_has_a_history c.state.layout enough (past ++ take i turns)
      (keys_behind past turns p keys i)

  led_to : (past turns : List (ℕ × Event)) → IsPast c past → (i : ℕ)
      → after_in (ordered c.state.layout) (past ++ take i turns) ≡ after_in c (take i turns)
  led_to past turns p i = after_in-append (ordered c.state.layout) past (take i turns)
      ∙ ap (λ (d : Configuration). after_in d (take i turns)) p.leads

  -- a law of ordered runs holds after each turn
  behind : (P : Configuration → Type 0) → OfEachOrdered P → (past turns : List (ℕ × Event)) → IsPast c past
      → All (λ u. HasKey u.1) turns → (i : ℕ) → P (after_in c (take i turns))
  behind P law past turns p keys i = subst P (led_to past turns p i)
      (law c.state.layout enough (past ++ take i turns) (keys_behind past turns p keys i))

  pub stays_in_order : (turns : List (ℕ × Event)) → All (λ u. HasKey u.1) turns → StaysInOrder c turns
  stays_in_order turns keys some i =
      let past = has_past some in
      record {
        keys = behind KeysLieInIntervals each_key_lies past.0 turns past.1 keys i;
        leaves = behind LeavesHaveTheirOwnKeys each_leaf_has_its_key past.0 turns past.1 keys i;
        stale = behind WalksStayInOrder each_walk_stays past.0 turns past.1 keys i;
        reads = behind WalksReadKeys each_walk_reads past.0 turns past.1 keys i;
        ranges = behind RangesNest each_range_nests past.0 turns past.1 keys i;
        paths = behind PathsAreShort each_path_is_short past.0 turns past.1 keys i;
      }

  -- and now
  pub of_ordered : (P : Configuration → Type 0) → OfEachOrdered P → IsSome c.searches → P c
  of_ordered P law some = let past = has_past some in
      subst P past.1.leads (law c.state.layout enough past.0 past.1.keys)

  -- what any core tells of its keys
  pub tells_the_set : KeysTellTheSet c
  tells_the_set k = let l = reachable_is_lawful c.state (reached_state c r) in keys_of_state c.state l.holder l.law k

-- the turns that led here and then those of a run are the turns of one run from the opening
pub headline_behind : (c : Configuration) (turns : List (ℕ × Event)) → All (λ u. HasKey u.1) turns
    → HasHeadlineBehind c turns
headline_behind c turns keys r = subst (Headline c.state.layout)
    (trace_in-append from r.events turns ∙ ap (λ (d : Configuration). trace_in from r.events ++ trace_in d turns)
    r.leads)
    (headline c.state.layout r.fits r.is_ordered (r.events ++ turns)
    (All-append (λ (u : ℕ × Event). HasKey u.1) r.events turns r.keys keys))
  where
    from : Configuration
    from = opening_of c.state.layout r.is_ordered
