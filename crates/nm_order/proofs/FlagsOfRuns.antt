-- In every ordered run the flag that is kept of a call is the first that its log won, and no other
-- is.
use Rattle.std.proofs.Common.{◌≡◌, ℕ, zero, suc, ◌<◌, ◌≤◌, Bool, true, false, cond, ◌||◌, List, [], ◌∷◌, ◌++◌, true≢false, refl, sym, ap, subst, ◌∙◌, arith}
use Rattle.std.specs.Prelude.{Option, Some, None, is_some, replicate, All}
use Rattle.std.proofs.lemmas.Bool.{cond-true, cond-false}
use Rattle.std.proofs.lemmas.List.Folds.{list_any-append}
use Rattle.std.proofs.lemmas.Option.{none-some, same_Some}
use Rattle.nm_edge.specs.Layouts.{Layout}
use Rattle.nm_edge.specs.declared.node.NodeId.{NodeId}
use Rattle.nm_model.specs.declared.event.Event.{Event}
use Rattle.nm_model.specs.declared.event.Event.TheVariants.{Flag}
use Rattle.nm_model.specs.declared.reply.Reply.TheVariants.{Flagged}
use Rattle.nm_model.specs.declared.arrivals.Call.{Call}
use Rattle.nm_model.specs.Runs.{reply_of}
use Rattle.nm_model.specs.Searches.{Search, idle, searched}
use Rattle.nm_model.specs.Walks.{Entry, search_after, begins_anew, since_pin}
use Rattle.nm_model.specs.Ordered.{ordered, search_of, refused_in, after_in, trace_in}
use Rattle.nm_laws.proofs.SearchesGrow.{only_grow}
use Rattle.nm_order.specs.Intervals.{HasKey}
use Rattle.nm_order.specs.WalksToArrivals.{is_won_flag, since_flag, OfEachCall}
use Rattle.nm_order.specs.FlagsOfCalls.{HasWonFlag, FlagsAreKept, NoSecondFlag}
use Rattle.nm_order.proofs.SearchesOfLogs.{has_flag, since_flag_more, begun_anew, knows_log}
use Rattle.nm_order.proofs.WalksOfRuns.{LogGrows, log_grows, search-append, since_pin-append, has_searches, over_turns, log_after, known_after, is_known, of_each_call}
use Rattle.nm_order.proofs.WalksOfRuns.LogGrows.{Same, Longer}
use Rattle.nm_order.proofs.FlagsOfEvents.{flag_by, flag_added, kept_flag, first_flag}
use Rattle.nm_order.proofs.OwnLinks.{IsFlagEntry, flag_entry}

-- ---- logs

-- the flag that a part of a log leaves
flag_after : Option NodeId → List Entry → Option NodeId
flag_after o [] = o
flag_after o (e ∷ es) = flag_after (flag_by o e) es

flag_after-append : (o : Option NodeId) (es fs : List Entry) → flag_after o (es ++ fs) ≡ flag_after (flag_after o es) fs
unfolding flag_after
flag_after-append o [] fs = refl
flag_after-append o (e ∷ es) fs = flag_after-append (flag_by o e) es fs

neither_true : (a b : Bool) → (a || b) ≡ false → (a ≡ false) × (b ≡ false)
neither_true true b is = absurd (true≢false is)
neither_true false b is = (refl, is)

-- no flag is won in a part
flag_stays : (o : Option NodeId) (es : List Entry) → has_flag es ≡ false → flag_after o es ≡ o
unfolding flag_after
flag_stays o [] none = refl
flag_stays o (e ∷ es) none =
    let parts = neither_true (is_won_flag e) (has_flag es) none in
    flag_stays (flag_by o e) es parts.1 ∙ kept_flag o e.0 e.1 parts.0

none_won : (es : List Entry) → has_flag es ≡ false → All (λ e. is_won_flag e ≡ false) es
none_won [] none i d below = absurd (omega (arith, below))
none_won (e ∷ es) none zero d below = (neither_true (is_won_flag e) (has_flag es) none).0
none_won (e ∷ es) none (suc i) d below = none_won es (neither_true (is_won_flag e) (has_flag es) none).1 i d
    (omega (arith, below))

first_won : (es : List Entry) → has_flag es ≡ true → (n : NodeId) × HasWonFlag es n
first_won [] has = absurd (true≢false (sym has))
first_won (e ∷ es) has = by (is_won_flag e) refl has (first_won es)
  where
    by : (b : Bool) → is_won_flag e ≡ b → (b || has_flag es) ≡ true
        → (has_flag es ≡ true → (n : NodeId) × HasWonFlag es n) → (n : NodeId) × HasWonFlag (e ∷ es) n
    by true won has rest =
        let f : IsFlagEntry e.0 e.1 = flag_entry e.0 e.1 won in
        let behind : since_flag (e ∷ es) ≡ es = cond-true (is_won_flag e) es (since_flag es) won in (
          f.node,
          record {
            before = [];
            parent = f.parent;
            side = f.side;
            leaf = f.leaf;
            is = λ i.
                (f.is_event i, f.is_reply i) ∷ sym behind i;
          },
        )
    by false not_won has rest =
        let h = rest has in
        let behind : since_flag (e ∷ es) ≡ since_flag es = cond-false (is_won_flag e) es (since_flag es) not_won in (
          h.0,
          record {
            before = e ∷ h.1.before;
            parent = h.1.parent;
            side = h.1.side;
            leaf = h.1.leaf;
            is = ap
                (λ (xs : List Entry). e ∷ xs) h.1.is ∙ ap (λ (xs : List Entry). e
                ∷ (h.1.before ++ (Flag h.1.parent h.1.side h.1.leaf, Flagged h.0) ∷ xs)) (sym behind);
          },
        )

-- what a log that won one flag leaves
flag_left : (es : List Entry) (n : NodeId) → has_flag (since_flag es) ≡ false → HasWonFlag es n
    → flag_after None es ≡ Some n
unfolding flag_after
flag_left es n once h = ap (flag_after None) h.is
    ∙ (flag_after-append None h.before ((Flag h.parent h.side h.leaf, Flagged n) ∷ since_flag es)
    ∙ flag_stays (Some n) (since_flag es) once)

-- ---- what is kept

abbrev KeepsFlag : Search → List Entry → Type 0
KeepsFlag s log = (call : Call) → s.call ≡ Some call → s.flagged ≡ flag_after None log

keeps_more : (s : Search) (log : List Entry) (e : Entry) → KeepsFlag s log
    → KeepsFlag (searched s e.0 e.1) (cond (begins_anew e) [] (log ++ e ∷ []))
unfolding flag_after
keeps_more s log e keeps call is = by (begins_anew e) refl
  where
    by : (b : Bool) → begins_anew e ≡ b → (searched s e.0 e.1).flagged ≡ flag_after None (cond b [] (log ++ e ∷ []))
    by true anew = (begun_anew s e.0 e.1 anew).flagged
    by false stands = flag_added s e.0 e.1 stands ∙ (ap (λ (o : Option NodeId). flag_by o e)
        (keeps call (sym (only_grow s e.0 e.1 stands).call ∙ is)) ∙ sym (flag_after-append None log (e ∷ [])))

keeps_all : (es : List Entry) (s : Search) (log : List Entry) → KeepsFlag s log
    → KeepsFlag (search_after s es) (since_pin log es)
keeps_all [] s log keeps = keeps
keeps_all (e ∷ es) s log keeps = keeps_all es (searched s e.0 e.1) (cond (begins_anew e) [] (log ++ e ∷ []))
    (keeps_more s log e keeps)

keeps_log : (es : List Entry) (call : Call) → (search_after idle es).call ≡ Some call
    → (search_after idle es).flagged ≡ flag_after None (since_pin [] es)
keeps_log es = keeps_all es idle [] (λ call is. absurd (none-some call is))

-- ---- runs

module _ (L : Layout) (enough : 5 ≤ L.nodes) (w : ℕ) (inside : w < L.workers) where
  abbrev log : List (ℕ × Event) → List Entry
  log ts = log_after L enough w inside ts

  abbrev known : List (ℕ × Event) → Search
  known ts = known_after L enough w inside ts

  abbrev OneFlag : List (ℕ × Event) → Type 0
  OneFlag ts = (call : Call) → (known ts).call ≡ Some call → has_flag (since_flag (since_pin [] (log ts))) ≡ false

  module _ (ts : List (ℕ × Event)) (t : ℕ × Event) (once : OneFlag ts) (call : Call)
      (is : (known (ts ++ t ∷ [])).call ≡ Some call) where
    abbrev entry : Entry
    entry = (t.1, reply_of (after_in (ordered L) ts).state t.0 t.1)

    -- a flag is won only where the log had none
    not_won : t.0 ≡ w → refused_in (after_in (ordered L) ts) t.0 t.1 ≡ None → (old : Call)
        → (known ts).call ≡ Some old → has_flag (since_pin [] (log ts)) ≡ true → (b : Bool) → is_won_flag entry ≡ b
        → b ≡ false
    not_won own allowed old called had false won = refl
    not_won own allowed old called had true won =
        let s = has_searches ts (ordered L) (replicate L.workers idle) refl in
        let unflagged : (search_of s.0 t.0).flagged ≡ None = first_flag (after_in (ordered L) ts) s.0 s.1 t.0 t.1
        (reply_of (after_in (ordered L) ts).state t.0 t.1) allowed won in
        let same : search_of s.0 t.0 ≡ known ts = ap (search_of s.0) own ∙ is_known L enough w inside ts s.0 s.1 in
        sym had ∙ (sym (knows_log (log ts) old called).flagged
        ∙ ap is_some (ap (λ (x : Search). x.flagged) (sym same) ∙ unflagged))

    one_longer : t.0 ≡ w → refused_in (after_in (ordered L) ts) t.0 t.1 ≡ None
        → log (ts ++ t ∷ []) ≡ log ts ++ entry ∷ [] → (b : Bool) → begins_anew entry ≡ b
        → has_flag (since_flag (cond b [] (since_pin [] (log ts) ++ entry ∷ []))) ≡ false
    one_longer own allowed e true anew = refl
    one_longer own allowed e false stands = ap has_flag (since_flag_more (since_pin [] (log ts)) entry)
        ∙ by (has_flag (since_pin [] (log ts))) refl
      where
        called : (known ts).call ≡ Some call
        called = sym (only_grow (known ts) t.1 (reply_of (after_in (ordered L) ts).state t.0 t.1) stands).call
            ∙ (ap (λ (s : Search). s.call) (sym (ap (search_after idle) e ∙ search-append idle (log ts) (entry ∷ [])))
            ∙ is)

        by : (b : Bool) → has_flag (since_pin [] (log ts)) ≡ b
            → has_flag (cond b (since_flag (since_pin [] (log ts)) ++ entry ∷ []) []) ≡ false
        by false none = refl
        by true had = list_any-append is_won_flag (since_flag (since_pin [] (log ts))) (entry ∷ [])
            ∙ (λ i. once call called i || (not_won own allowed call called had (is_won_flag entry) refl i || false))

    still_once : has_flag (since_flag (since_pin [] (log (ts ++ t ∷ [])))) ≡ false
    still_once = by (log_grows w (ordered L) ts t)
      where
        by : LogGrows w (after_in (ordered L) ts) t (log ts) (log (ts ++ t ∷ []))
            → has_flag (since_flag (since_pin [] (log (ts ++ t ∷ [])))) ≡ false
        by (Same e) = ap (λ (es : List Entry). has_flag (since_flag (since_pin [] es))) e
            ∙ once call (ap (λ (es : List Entry). (search_after idle es).call) (sym e) ∙ is)
        by (Longer own allowed e) = ap (λ (es : List Entry). has_flag (since_flag es))
            (ap (since_pin []) e ∙ since_pin-append [] (log ts) (entry ∷ []))
            ∙ one_longer own allowed e (begins_anew entry) refl

  one_flag : (ts : List (ℕ × Event)) → All (λ t. HasKey t.1) ts → OneFlag ts
  unfolding trace_in
  one_flag = over_turns OneFlag (λ call is. refl) (λ ts t keys once call is. still_once ts t once call is)

  flag_told : (ts : List (ℕ × Event)) → All (λ t. HasKey t.1) ts → (call : Call) → (known ts).call ≡ Some call
      → FlagsAreKept (since_pin [] (log ts)) (known ts)
  flag_told ts keys call is n = (
    there,
    λ h. keeps_log (log ts) call is
        ∙ flag_left (since_pin [] (log ts)) n (one_flag ts keys call is) h,
  )
    where
      there : (known ts).flagged ≡ Some n → HasWonFlag (since_pin [] (log ts)) n
      there has =
          let first = first_won (since_pin [] (log ts)) (sym (knows_log (log ts) call is).flagged ∙ ap is_some has) in
          let same : first.0 ≡ n = same_Some first.0 n
          (sym (flag_left (since_pin [] (log ts)) first.0 (one_flag ts keys call is) first.1)
          ∙ (sym (keeps_log (log ts) call is) ∙ has)) in
          subst (HasWonFlag (since_pin [] (log ts))) same first.1

-- ---- the laws

pub each_flag_is_told : OfEachCall (λ k log s. FlagsAreKept log s)
each_flag_is_told = of_each_call (λ k log s. FlagsAreKept log s)
    (λ L enough turns keys w inside call is. flag_told L enough w inside turns keys call is)

pub no_second_flag : OfEachCall (λ k log s. NoSecondFlag log)
no_second_flag = of_each_call (λ k log s. NoSecondFlag log)
    (λ L enough turns keys w inside call is. none_won (since_flag (since_pin [] (log L enough w inside turns)))
    (one_flag L enough w inside turns keys call is))
