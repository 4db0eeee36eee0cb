-- Where nothing is pending of the workers with which a tree is closed, nothing is pending in its
-- run.
use Rattle.std.proofs.Common.{◌≡◌, ℕ, ◌≤◌, Bool, cond, inl, inr, List, [], ◌∷◌, ◌++◌, map, length, refl, sym, ap, subst, ◌∙◌, arith}
use Rattle.std.specs.Prelude.{None, Option, Ok, All}
use Rattle.std.proofs.lemmas.Bool.{eq-eqb}
use Rattle.std.proofs.lemmas.List.Elements.{All-append, All-cons, All-head, All-tail, All-weaker}
use Rattle.nm_edge.specs.Layouts.{Layout}
use Rattle.nm_edge.specs.declared.node.NodeId.{NodeId}
use Rattle.nm_model.specs.declared.trace.Turn.{Turn}
use Rattle.nm_model.specs.Ordered.{ordered, trace_in}
use Rattle.nm_model.specs.Searches.{Search, idle, searched}
use Rattle.nm_model.specs.Walks.{Entry, search_after}
use Rattle.nm_order.specs.Logs.{part_of}
use Rattle.nm_order.proofs.LastEntries.{search_more}
use Rattle.nm_tree.specs.Ended.{IsEndOf}
use Rattle.nm_steps.specs.declared.view.Held.{Held}
use Rattle.nm_steps.specs.declared.view.View.{View}
use Rattle.nm_steps.specs.Rules.{IsShown, LogsAre, answered_turn, held_log, joined, passing}
use Rattle.nm_steps.specs.Steps.{PassView}
use Rattle.nm_progress.specs.Pending.{NonePends, leaf_after, leaf_by}
use Rattle.nm_progress.proofs.PendingTurns.{leaf_is_told, leaf_own}
use Rattle.nm_tree.specs.Closing.{AreFrom, StandsForAll, all_joined}
use Rattle.nm_tree.specs.Settled.{TellNoFlag, HasNothingPending, HeirsHaveNothingPending, RestingWorkersHaveNothingPending}
use Rattle.nm_tree.specs.Workers.{WorkerView, IsWorker, HasNumber}
use Rattle.nm_tree.proofs.EndWorkers.{are, there}
use Rattle.nm_tree.proofs.Heirs.{logs}

-- ---- logs that tell of no flag

-- a log and its turns tell of the same leaf
by_turns : (n : ℕ) (s : Search) (log : List Entry)
    → leaf_after n s.flagged (map (λ (e : Entry). answered_turn n e.0 e.1) log) ≡ (search_after s log).flagged
by_turns n s [] = refl
by_turns n s (e ∷ es) =
    let turns : List Turn = map (λ (d : Entry). answered_turn n d.0 d.1) es in
    ap (λ (b : Bool). leaf_after n (cond b (leaf_by s.flagged e.0 (Ok e.1)) s.flagged) turns) (eq-eqb n n refl)
    ∙ (ap (λ (f : Option NodeId). leaf_after n f turns) (leaf_own s e.0 e.1) ∙ by_turns n (searched s e.0 e.1) es)

-- a log as the turns of its worker
abbrev turns_of : Held → List Turn
turns_of h = map (λ e. answered_turn h.number e.0 e.1) h.log

abbrev IsQuiet : Held → Type 0
IsQuiet h = (search_after idle h.log).flagged ≡ None

abbrev AreQuiet : List Held → Type 0
AreQuiet hs = All IsQuiet hs

told_quiet : (hs : List Held) → TellNoFlag hs → AreQuiet hs
told_quiet hs told = All-weaker (λ (h : Held). leaf_after h.number None (turns_of h) ≡ None) IsQuiet
    (λ h none. sym (by_turns h.number idle h.log) ∙ none) hs told

quiet_told : (hs : List Held) → AreQuiet hs → TellNoFlag hs
quiet_told hs quiet = All-weaker IsQuiet (λ (h : Held). leaf_after h.number None (turns_of h) ≡ None)
    (λ h none. by_turns h.number idle h.log ∙ none) hs quiet

-- a join tells of none
with_join : (log : List Entry) (w : View) → (search_after idle log).flagged ≡ None
    → (search_after idle (log ++ passing w ∷ [])).flagged ≡ None
unfolding searched
with_join log w none = ap (λ (s : Search). s.flagged) (search_more idle log (passing w)) ∙ none

with_joined : (h : Held) (hs : List Held) (w : View) → AreQuiet (h ∷ hs)
    → AreQuiet (held_log h.number (h.log ++ passing w ∷ []) ∷ hs)
with_joined h hs w quiet = All-cons IsQuiet (held_log h.number (h.log ++ passing w ∷ [])) hs
    (with_join h.log w (All-head IsQuiet h hs quiet)) (All-tail IsQuiet h hs quiet)

joined_quiet : (v w : View) → AreQuiet (logs v) → AreQuiet (logs w) → AreQuiet (logs (joined v w))
joined_quiet v w first second =
    All-append IsQuiet (held_log v.number (v.log ++ passing w ∷ []) ∷ v.others)
    (held_log w.number (w.log ++ passing w ∷ []) ∷ w.others)
    (with_joined (held_log v.number v.log) v.others w first) (with_joined (held_log w.number w.log) w.others w second)

-- the log of a worker of that number tells of none
one_quiet : (l L : Layout) (t : List Turn) (hs : List Held) → LogsAre l L t hs → AreQuiet hs → (u : ℕ)
    → HasNumber u hs → (search_after idle (part_of u t)).flagged ≡ None
one_quiet l L t [] shown none u has = elim has [ ]
one_quiet l L t (h ∷ hs) shown none u (inl at) =
    let P : List Entry → Type 0 = λ log. (search_after idle log).flagged ≡ None in
    subst P (shown.1 ∙ ap (λ (n : ℕ). part_of n t) at) (All-head IsQuiet h hs none)
one_quiet l L t (h ∷ hs) shown none u (inr has) = one_quiet l L t hs shown.2 (All-tail IsQuiet h hs none) u has

-- ---- workers with nothing pending

worker_quiet : (w : WorkerView) → HasNothingPending w → AreQuiet (logs w.pass.view)
worker_quiet w rests = told_quiet (logs w.pass.view) rests

all_quiet : (w : WorkerView) (ws : List WorkerView) → All HasNothingPending (w ∷ ws)
    → AreQuiet (logs (all_joined (w ∷ ws)))
all_quiet w [] rest = worker_quiet w (All-head HasNothingPending w [] rest)
all_quiet w (u ∷ us) rest = joined_quiet (all_joined (u ∷ us)) w.pass.view
    (all_quiet u us (All-tail HasNothingPending w (u ∷ us) rest))
    (worker_quiet w (All-head HasNothingPending w (u ∷ us) rest))

-- nor has one that stands for two
pub heirs_have_nothing_pending : HeirsHaveNothingPending
heirs_have_nothing_pending heir leaver z resigned first second =
    subst (λ (p : PassView). TellNoFlag (logs p.view)) (sym resigned.joined)
    (quiet_told (logs (joined heir.pass.view leaver.pass.view))
    (joined_quiet heir.pass.view leaver.pass.view (worker_quiet heir first) (worker_quiet leaver second)))

-- nor one whose call has flagged no leaf, by what it has seen
pub resting_workers_have_nothing_pending : RestingWorkersHaveNothingPending
resting_workers_have_nothing_pending w seen none others =
    let v = w.pass.view in
    let P : List Entry → Type 0 = λ log. (search_after idle log).flagged ≡ None in
    let own : IsQuiet (held_log v.number v.log) = subst P seen.own (sym (leaf_is_told v.number idle v.past) ∙ none) in
    quiet_told (logs v) (All-cons IsQuiet (held_log v.number v.log) v.others own (told_quiet v.others others))

-- ---- the end of a tree

module _ (L : Layout) (words : List ℕ) (e : IsEndOf L words) (w : WorkerView) (home : ℕ) (is : IsWorker w home)
    (is_shown : IsShown L (trace_in (ordered L) e.turns) w.pass.view)
    (each : AreFrom 0 w.queues) (all : length w.queues ≡ L.workers) (ws : List WorkerView)
    (stands : StandsForAll ws w.pass.view) (some : 1 ≤ length ws) where
  quiet : (us : List WorkerView) → 1 ≤ length us → All HasNothingPending us → AreQuiet (logs (all_joined us))
  quiet [] none rest = absurd (omega (arith, none))
  quiet (u ∷ us) more rest = all_quiet u us rest

  pub settles : All HasNothingPending ws → NonePends L (trace_in (ordered L) e.turns)
  settles rest u less =
      let told : AreQuiet (logs w.pass.view) = subst (λ (v : View). AreQuiet (logs v)) (sym stands)
      (quiet ws some rest) in
      leaf_is_told u idle (trace_in (ordered L) e.turns)
      ∙ one_quiet w.pass.view.layout L (trace_in (ordered L) e.turns) (logs w.pass.view)
      (are L words e w home is is_shown each all) told u
      (there L words e w home is is_shown each all u less)
