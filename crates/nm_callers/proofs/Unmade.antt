-- Where no worker has won such an exchange, and no call is open, no act of a history of the turns
-- has changed the set so.
use Rattle.std.proofs.Common.{◌≡◌, ◌⊎◌, inl, inr, ℕ, ◌+◌, ◌<◌, ◌==◌, Bool, true, false, true≢false, ◌&&◌, ◌||◌, cond, List, [], ◌∷◌, ◌++◌, length, refl, sym, ap, subst, ◌∙◌, arith}
use Rattle.std.specs.Prelude.{Option, Some, None, Result, Ok, Err, filter}
use Rattle.std.specs.List.{list_any}
use Rattle.std.proofs.lemmas.Bool.{eq-eqb, eqb-true, and_parts, or_cases}
use Rattle.std.proofs.lemmas.Option.{none-some}
use Rattle.std.proofs.lemmas.List.Folds.{list_any-append}
use Rattle.nm_edge.specs.Layouts.{Layout}
use Rattle.nm_laws.proofs.ListOrders.{In, in_contained}
use Rattle.nm_model.specs.declared.event.Op.{Op}
use Rattle.nm_model.specs.declared.event.Op.TheVariants.{Has, Insert, Delete}
use Rattle.nm_model.specs.declared.event.Event.{Event}
use Rattle.nm_model.specs.declared.event.Event.TheVariants.{Sight, SightFor, Leave, LeaveWith, Join, Link, Flag}
use Rattle.nm_model.specs.declared.reply.Reply.{Reply}
use Rattle.nm_model.specs.declared.reply.Refused.{Refused}
use Rattle.nm_model.specs.declared.trace.Turn.{Turn}
use Rattle.nm_model.specs.Walks.{Entry}
use Rattle.nm_model.specs.Acts.{Act, IsAmong}
use Rattle.nm_order.specs.Logs.{part_of}
use Rattle.nm_model.specs.Histories.{Called, AnswerStands, IsAct, IsHistory, answer_turn, call_after, call_begun, call_by, called_in}
use Rattle.nm_model.specs.Histories.IsAct.{IsAnswered, IsPending}
use Rattle.nm_theorem.proofs.HistoriesOfRuns.{call_join}
use Rattle.nm_tree.specs.Running.{AreOfWorkers, TrueAnswersHaveWon, WinsIn, wins}
use Rattle.nm_tree.proofs.JoinsAlone.{told_in_part}
use Rattle.nm_set.proofs.Letters.{some_in}

-- ---- a worker that has won an exchange

-- one turn of a worker, which was not refused
pub record Made (w : ℕ) (turns : List Turn) : Type 0 where
  pub turn : Turn
  pub reply : Reply
  pub among : In turns turn
  pub own : turn.worker ≡ w
  pub accepted : turn.outcome ≡ Ok reply

later_made : (w : ℕ) (t : Turn) (ts : List Turn) → Made w ts → Made w (t ∷ ts)
later_made w t ts m = record { turn = m.turn; reply = m.reply; among = inr m.among; own = m.own; accepted = m.accepted }

-- and has won such an exchange
pub record Won (op : Op) (w : ℕ) (turns : List Turn) : Type 0 where
  pub made : Made w turns
  pub won : wins op made.turn.event (Ok made.reply) ≡ true

refused_none : (op : Op) (e : Event) (x : Refused) → wins op e (Err x) ≡ true → ⊥
refused_none Has e x is = true≢false (sym is)
refused_none Insert (Link p side leaf new) x is = true≢false (sym is)
refused_none Insert e x is = true≢false (sym is)
refused_none Delete (Flag p side leaf) x is = true≢false (sym is)
refused_none Delete e x is = true≢false (sym is)

pub who_won : (op : Op) (w : ℕ) (turns : List Turn) → WinsIn op w turns → Won op w turns
unfolding later_made
who_won op w [] is = absurd (true≢false (sym is))
who_won op w (t ∷ ts) is = by (or_cases ((t.worker == w) && wins op t.event t.outcome)
    (list_any (λ u. (u.worker == w) && wins op u.event u.outcome) ts) is) (who_won op w ts)
  where
    at : (o : Result Reply Refused) → t.outcome ≡ o → wins op t.event o ≡ true → t.worker ≡ w → Won op w (t ∷ ts)
    at (Ok r) told won own = record {
      made = record {
        turn = t;
        reply = r;
        among = inl refl;
        own = own;
        accepted =
            told;
      };
      won = won;
    }
    at (Err x) told won own = absurd (refused_none op t.event x won)

    by : (((t.worker == w) && wins op t.event t.outcome) ≡ true)
        ⊎ (list_any (λ u. (u.worker == w) && wins op u.event u.outcome) ts ≡ true) → (WinsIn op w ts → Won op w ts)
        → Won op w (t ∷ ts)
    by (inl here) rest = let both = and_parts (t.worker == w) (wins op t.event t.outcome) here in
        at t.outcome refl both.1 (eqb-true t.worker w both.0)
    by (inr there) rest = let m = rest there in record { made = later_made w t ts m.made; won = m.won }

-- so it is counted in the worker's part
pub none_won : (op : Op) (is_such : Entry → Bool)
    (table : (e : Event) (r : Reply) → wins op e (Ok r) ≡ is_such (e, r)) (w : ℕ) (turns : List Turn)
    → length (filter is_such (part_of w turns)) ≡ 0 → WinsIn op w turns → ⊥
none_won op is_such table w turns none won =
    let x : Won op w turns = who_won op w turns won in
    let m = x.made in
    let some = some_in is_such (part_of w turns) (m.turn.event, m.reply)
    (told_in_part w turns m.turn m.reply m.among m.own m.accepted) (sym (table m.turn.event m.reply) ∙ x.won) in
    omega (arith, none, some)

-- what was won is won in turns that go on
pub won_still : (op : Op) (w : ℕ) (first more : List Turn) → WinsIn op w first → WinsIn op w (first ++ more)
won_still op w first more is =
    let such : Turn → Bool = λ t. (t.worker == w) && wins op t.event t.outcome in
    list_any-append such first more ∙ ap (λ (b : Bool). b || list_any such more) is

-- ---- open calls

refused_call : (n : ℕ) (so : Option Called) (e : Event) (x : Refused) → call_by n so e (Err x) ≡ so
refused_call n so Sight x = refl
refused_call n so (SightFor op key) x = refl
refused_call n so Leave x = refl
refused_call n so (LeaveWith answer) x = refl
refused_call n so e x = refl

-- a worker that has a call has made a turn
begun_by : (w n : ℕ) (so : Option Called) (ts : List Turn) (c : Called) → call_after w n so ts ≡ Some c
    → (so ≡ Some c) ⊎ Made w ts
begun_by w n so [] c is = inl is
begun_by w n so (t ∷ ts) c is = by (t.worker == w) refl t.outcome refl
    (begun_by w (n + 1) (cond (t.worker == w) (call_by n so t.event t.outcome) so) ts c is)
  where
    by : (b : Bool) → (t.worker == w) ≡ b → (o : Result Reply Refused) → t.outcome ≡ o
        → (cond (t.worker == w) (call_by n so t.event t.outcome) so ≡ Some c) ⊎ Made w ts
        → (so ≡ Some c) ⊎ Made w (t ∷ ts)
    by b own o told (inr m) = inr (later_made w t ts m)
    by false own o told (inl at) = inl (ap (λ (d : Bool). cond d (call_by n so t.event t.outcome) so) (sym own) ∙ at)
    by true own (Ok r) told (inl at) = inr (record {
      turn = t;
      reply = r;
      among = inl refl;
      own = eqb-true t.worker w
          own;
      accepted = told;
    })
    by true own (Err x) told (inl at) = inl (sym (refused_call n so t.event x)
        ∙ (ap (call_by n so t.event) (sym told) ∙ (ap (λ (d : Bool). cond d (call_by n so t.event t.outcome) so)
        (sym own) ∙ at)))

pub who_calls : (w : ℕ) (turns : List Turn) (c : Called) → call_begun w turns ≡ Some c → Made w turns
who_calls w turns c is = by (begun_by w 0 None turns c is)
  where
    by : (None ≡ Some c) ⊎ Made w turns → Made w turns
    by (inl was) = absurd (none-some c was)
    by (inr m) = m

-- a call stays open, and none begins, in turns of which the worker's own are joins
joins_alone : (w n : ℕ) (so : Option Called) (ts : List Turn)
    → ((t : Turn) (r : Reply) → In ts t → t.worker ≡ w → t.outcome ≡ Ok r → (v : ℕ) × (t.event ≡ Join v))
    → call_after w n so ts ≡ so
joins_alone w n so [] only = refl
joins_alone w n so (t ∷ ts) only =
    ap (λ (x : Option Called). call_after w (n + 1) x ts) (by (t.worker == w) refl t.outcome refl)
    ∙ joins_alone w (n + 1) so ts (λ u r there own is. only u r (inr there) own is)
  where
    by : (b : Bool) → (t.worker == w) ≡ b → (o : Result Reply Refused) → t.outcome ≡ o
        → cond b (call_by n so t.event o) so ≡ so
    by false own o told = refl
    by true own (Err x) told = refused_call n so t.event x
    by true own (Ok r) told = let j = only t r (inl refl) (eqb-true t.worker w own) told in
        ap (λ (e : Event). call_by n so e (Ok r)) j.1

pub no_call_then : (w : ℕ) (was more : List Turn) → call_begun w was ≡ None
    → ((t : Turn) (r : Reply) → In more t → t.worker ≡ w → t.outcome ≡ Ok r → (v : ℕ) × (t.event ≡ Join v))
    → call_begun w (was ++ more) ≡ None
no_call_then w was more none only = call_join w 0 None was more
    ∙ (joins_alone w (0 + length was) (call_begun w was) more only ∙ none)

-- an answer ends the call
pub answered_none : (L : Layout) (was now : List Turn) (w : ℕ) (op : Op) (k : ℕ) (answer : Bool)
    → AnswerStands L was now w op k answer → call_begun w now ≡ None
answered_none L was now w op k answer s =
    ap (call_begun w) s.are
    ∙ (call_join w 0 None (was ++ s.since) (answer_turn w answer ∷ [])
    ∙ ap (λ (b : Bool). cond b None (call_begun w (was ++ s.since))) (eq-eqb w w refl))

last_in : (xs : List Turn) (t : Turn) → In (xs ++ t ∷ []) t
last_in [] t = inl refl
last_in (x ∷ xs) t = inr (last_in xs t)

-- and its worker is one of the tree's
pub answers_below : (L : Layout) (was now : List Turn) (w : ℕ) (op : Op) (k : ℕ) (answer : Bool)
    → AnswerStands L was now w op k answer → AreOfWorkers L now → w < L.workers
answers_below L was now w op k answer s staffed =
    staffed (answer_turn w answer) _ (in_contained now (answer_turn w answer)
    (subst (λ (ts : List Turn). In ts (answer_turn w answer)) (sym s.are)
    (last_in (was ++ s.since) (answer_turn w answer)))) refl

-- ---- the acts

module _ (L : Layout) (turns : List Turn) (staffed : AreOfWorkers L turns) (won : TrueAnswersHaveWon turns) (op : Op)
    (no_has : op ≡ Has → ⊥)
    (none : (w : ℕ) → w < L.workers → WinsIn op w turns → ⊥)
    (closed : (w : ℕ) → w < L.workers → call_begun w turns ≡ None) where
  below : (w : ℕ) → Made w turns → w < L.workers
  below w m = subst (λ (u : ℕ). u < L.workers) m.own
      (staffed m.turn m.reply (in_contained turns m.turn m.among) m.accepted)

  pub unmade : (acts : List Act) → IsHistory L turns acts → (a : Act) → IsAmong acts a → a.op ≡ op → a.answer ≡ true → ⊥
  unmade acts h a among is so = by (h.each a among)
    where
      by : IsAct turns a → ⊥
      by (IsAnswered before since are call late within) =
          let at : turns ≡ before ++ answer_turn a.worker true ∷ since = are
          ∙ ap (λ (b : Bool). before ++ answer_turn a.worker b ∷ since) so in
          go (won before since a.worker (called_in a) at call)
        where
          go : (a.op ≡ Has) ⊎ WinsIn a.op a.worker before → ⊥
          go (inl has) = no_has (sym is ∙ has)
          go (inr has) =
              let all : WinsIn op a.worker turns = subst (WinsIn op a.worker) (sym are)
              (won_still op a.worker before (answer_turn a.worker a.answer ∷ since)
              (subst (λ (o : Op). WinsIn o a.worker before) is has)) in
              none a.worker (below a.worker (who_won op a.worker turns all).made) all
      by (IsPending call late within) = none-some (called_in a)
          (sym (closed a.worker (below a.worker (who_calls a.worker turns (called_in a) call))) ∙ call)
