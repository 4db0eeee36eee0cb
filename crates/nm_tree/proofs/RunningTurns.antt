-- What the rule keeps is of the turns of its run, and so is what a worker has seen.
use Rattle.std.proofs.Common.{ℕ, ◌≡◌, Bool, cond, zero, suc, List, [], ◌∷◌, ◌++◌, inl, inr, ◌⊎◌, refl, sym, ap, subst, ◌∙◌, arith}
use Rattle.std.specs.Prelude.{true, false, Result, Ok, Err, All, Contains, map, slice_index_or, ◌<◌}
use Rattle.std.proofs.lemmas.List.{get_or-map, length-map}
use Rattle.std.proofs.lemmas.List.Elements.{Contains-append_left, Contains-append_right, Contains-append_cases, All-contains_itself}
use Rattle.nm_edge.specs.Layouts.{IsLayout}
use Rattle.nm_edge.specs.declared.node.NodeId.{NodeId}
use Rattle.nm_model.specs.declared.event.Event.{Event}
use Rattle.nm_model.specs.declared.event.Event.TheVariants.{Give}
use Rattle.nm_model.specs.declared.reply.Reply.{Reply}
use Rattle.nm_model.specs.declared.reply.Reply.TheVariants.{Freed}
use Rattle.nm_model.specs.declared.reply.Refused.{Refused}
use Rattle.nm_model.specs.declared.trace.Turn.{Turn}
use Rattle.nm_model.specs.Walks.{Entry, logged_by}
use Rattle.nm_order.specs.Logs.{part_of, takes_part}
use Rattle.nm_steps.specs.declared.view.View.{View}
use Rattle.nm_steps.specs.Rules.{Runs}
use Rattle.nm_steps.specs.Steps.{HasSeen}
use Rattle.nm_epoch.specs.declared.collecting.Entry.{Entry as Waiting}
use Rattle.nm_epoch.specs.Collecting.{freeing}
use Rattle.nm_model.specs.Headline.{Headline, nodes_freed_of, freed_by}
use Rattle.nm_model.specs.Histories.{HasHistory}
use Rattle.nm_theorem.proofs.LeftSince.{readers_have_left}
use Rattle.nm_model.specs.Ordered.{ordered, trace_in}
use Rattle.nm_steps.specs.Packing.{words_of}
use Rattle.nm_theorem.proofs.WrittenWords.{run_words}
use Rattle.nm_theorem.proofs.HeadlineOfRuns.{headline}
use Rattle.nm_theorem.proofs.HistoriesOfRuns.{history_of_run}
use Rattle.nm_tree.specs.Running.{AreOfWorkers, EachMomentIsOfTurns, HasSeenTurns, IsFreedInGrace, TrueAnswersHaveWon}
use Rattle.nm_tree.proofs.WonAnswers.{true_answers_have_won, turns_are_of_workers}

pub each_moment_is_of_turns : EachMomentIsOfTurns
each_moment_is_of_turns L s k =
    let r : Runs L k.core s.views = k.runs in
    record {
      turns = trace_in (ordered L) r.turns;
      shown = r.shown;
      lags = λ i v e. (r.lags i v e).past;
      values = k.values;
      count = k.long;
      written = k.words_are ∙ ap (λ (core : List ℕ). core ++ k.values)
          (r.words_are ∙ ap (words_of L) (sym (run_words L r.fits true r.turns)));
      headline = headline L r.fits true r.turns r.keys;
      plain_set = history_of_run L r.fits r.turns r.keys;
    }

-- ---- what a worker has seen

pub has_seen_turns : (v : View) → IsLayout v.layout → HasSeen v → HasSeenTurns v
has_seen_turns v fits seen = record {
  own = seen.is_part;
  workers = subst (AreOfWorkers v.layout) (sym seen.are) (turns_are_of_workers v.layout seen.events);
  won = subst TrueAnswersHaveWon (sym seen.are) (true_answers_have_won v.layout fits seen.events seen.keys);
  headline = subst (Headline v.layout) (sym seen.are) (headline v.layout fits true seen.events seen.keys);
  plain_set = subst (HasHistory v.layout) (sym seen.are) (history_of_run v.layout fits seen.events seen.keys);
}

-- what a log tells as freed, its turns have freed
freed_by_entry : (t : Turn) (s : ℕ) (n : NodeId) → Contains (logged_by t) (Give s, Freed n)
    → Contains (nodes_freed_of t.outcome) n
freed_by_entry t s n there = go t.outcome there
  where
    go : (o : Result Reply Refused) → Contains (logged_by
        (record { worker = t.worker; event = t.event; outcome = o })) (Give s, Freed n) → Contains (nodes_freed_of o) n
    go (Err x) there = let b = there.1 in absurd (omega (arith, b))
    go (Ok r) there = subst (λ (q : Reply). Contains (nodes_freed_of (Ok q)) n) (sym (reply_is r there))
        (zero, omega arith, refl)
      where
        same_reply : (r q : Reply) (e f : Event) → ◌≡◌ {A = Event × Reply} (e, r) (f, q) → r ≡ q
        same_reply r q e f is = ap (λ (x : Event × Reply). x.1) is

        reply_is : (r : Reply) → Contains {X = Entry} ((t.event, r) ∷ []) (Give s, Freed n) → r ≡ Freed n
        reply_is r (zero, below, is) = same_reply r (Freed n) t.event (Give s) is
        reply_is r (suc i, below, is) = absurd (omega (arith, below))

freed_by_turns : (w : ℕ) (ts : List Turn) (s : ℕ) (n : NodeId) → Contains (part_of w ts) (Give s, Freed n)
    → Contains (freed_by ts) n
freed_by_turns w [] s n there = let b = there.1 in absurd (omega (arith, b))
freed_by_turns w (t ∷ ts) s n there = go (freed_by_turns w ts s n) (takes_part w t.worker t.event)
    (Contains-append_cases (cond (takes_part w t.worker t.event) (logged_by t) []) (part_of w ts) (Give s, Freed n)
    there)
  where
    go : (Contains (part_of w ts) (Give s, Freed n) → Contains (freed_by ts) n) → (b : Bool)
        → Contains (cond b (logged_by t) []) (Give s, Freed n) ⊎ Contains (part_of w ts) (Give s, Freed n)
        → Contains (freed_by (t ∷ ts)) n
    go rest true (inl here) = Contains-append_left (nodes_freed_of t.outcome) (freed_by ts) n
        (freed_by_entry t s n here)
    go rest false (inl here) = let b = here.1 in absurd (omega (arith, b))
    go rest b (inr later) = Contains-append_right (nodes_freed_of t.outcome) (freed_by ts) n (rest later)

in_map : (es : List Waiting) (e : Waiting) → Contains es e → Contains (map freeing es) (freeing e)
in_map es e there = (
  there.0,
  subst (λ (n : ℕ). there.0 < n) (sym (length-map es freeing)) there.1,
  get_or-map
      freeing es there.0 e (freeing e) there.1 ∙ ap freeing there.2,
)

-- a collection frees in grace
pub collected_in_grace : (v : View) (mid : List Entry) (es : List Waiting) → IsLayout v.layout → HasSeen v
    → v.log ≡ mid ++ map freeing es → All (λ (e : Waiting). IsFreedInGrace v e.node) es
collected_in_grace v mid es fits seen is = λ i d below. of_one (slice_index_or es i d)
    (All-contains_itself es i d below)
  where
    logged : (e : Waiting) → Contains es e → Contains v.log (freeing e)
    logged e there = subst (λ (log : List Entry). Contains log (freeing e)) (sym is)
        (Contains-append_right mid (map freeing es) (freeing e) (in_map es e there))

    freed : (e : Waiting) → Contains es e → Contains (freed_by v.past) e.node
    freed e there = freed_by_turns v.number v.past e.node.slot e.node
        (subst (λ (log : List Entry). Contains log (freeing e)) (sym seen.is_part) (logged e there))

    of_one : (e : Waiting) → Contains es e → IsFreedInGrace v e.node
    of_one e there = record {
      freed = freed e there;
      left = readers_have_left v.layout v.past
          (has_seen_turns v fits seen).headline e.node (freed e there);
    }
