-- Behind what each worker that was given had seen, it has made joins alone.
use Rattle.std.proofs.Common.{◌≡◌, ℕ, ◌==◌, inl, inr, ◌⊎◌, ◌||◌, Bool, true, cond, List, [], ◌∷◌, ◌++◌, append_assoc, append-nil, refl, sym, ap, subst, ◌∙◌}
use Rattle.std.specs.Prelude.{All, Result, Ok, slice_index_or}
use Rattle.std.proofs.lemmas.Bool.{eq-eqb}
use Rattle.std.proofs.lemmas.List.{append_cancel_left}
use Rattle.std.proofs.lemmas.List.Elements.{All-append, All-cons, All-contains, All-nil, All-weaker}
use Rattle.nm_edge.specs.Layouts.{Layout}
use Rattle.nm_laws.proofs.ListOrders.{In, contained_in, in_contained, in_left, in_right}
use Rattle.nm_model.specs.declared.event.Event.TheVariants.{Join}
use Rattle.nm_model.specs.declared.reply.Reply.{Reply}
use Rattle.nm_model.specs.declared.reply.Refused.{Refused}
use Rattle.nm_model.specs.declared.trace.Turn.{Turn}
use Rattle.nm_model.specs.Walks.{Entry, logged_by}
use Rattle.nm_order.specs.Logs.{is_leaver, part_of, takes_part}
use Rattle.nm_order.proofs.AnswersSince.{part-append}
use Rattle.nm_steps.specs.declared.view.Held.{Held}
use Rattle.nm_steps.specs.declared.view.View.{View}
use Rattle.nm_steps.specs.Rules.{LogsAre, held_log, joined, passing}
use Rattle.nm_steps.specs.Steps.{HasSeen}
use Rattle.nm_tree.specs.Closing.{HasJoinedAlone, all_joined}
use Rattle.nm_tree.specs.Workers.{WorkerView}
use Rattle.nm_tree.proofs.Heirs.{logs}

-- ---- turns in a part

-- an accepted turn of a worker is in its part
pub told_in_part : (w : ℕ) (ts : List Turn) (t : Turn) (r : Reply) → In ts t → t.worker ≡ w → t.outcome ≡ Ok r
    → In (part_of w ts) (t.event, r)
told_in_part w [] t r there own is = absurd there
told_in_part w (x ∷ ts) t r (inl at) own is =
    in_left (cond (takes_part w x.worker x.event) (logged_by x) []) (part_of w ts) (t.event, r)
    (subst (λ (y : Turn). In (cond (takes_part w y.worker y.event) (logged_by y) []) (t.event, r)) at here)
  where
    taken : ((t.worker == w) || is_leaver w t.event) ≡ true
    taken = ap (λ (b : Bool). b || is_leaver w t.event) (eq-eqb t.worker w own)

    here : In (cond (takes_part w t.worker t.event) (logged_by t) []) (t.event, r)
    here =
        let P : Bool → Result Reply Refused → Type 0 = λ b o. In
        (cond b (logged_by (record { worker = t.worker; event = t.event; outcome = o })) []) (t.event, r) in
        let first : P true (Ok r) = inl refl in
        subst (λ (b : Bool). P b t.outcome) (sym taken) (subst (P true) (sym is) first)
told_in_part w (x ∷ ts) t r (inr later) own is = in_right (cond (takes_part w x.worker x.event) (logged_by x) [])
    (part_of w ts) (t.event, r) (told_in_part w ts t r later own is)

-- ---- the logs of all

abbrev IsJoin : Entry → Type 0
IsJoin e = (v : ℕ) × (e.0 ≡ Join v)

-- one of these logs is that worker's, with joins behind it
record Grown (hs : List Held) (n : ℕ) (log : List Entry) : Type 0 where
  held : Held
  among : In hs held
  number : held.number ≡ n
  more : List Entry
  are : held.log ≡ log ++ more
  joins : All IsJoin more

with_join : (v w : View) (n : ℕ) (log : List Entry) → Grown (logs v) n log → Grown (logs (joined v w)) n log
with_join v w n log g = by g.among
  where
    by : (g.held ≡ held_log v.number v.log) ⊎ In v.others g.held → Grown (logs (joined v w)) n log
    by (inl is) = record {
      held = held_log v.number (v.log ++ passing w ∷ []);
      among = inl refl;
      number = ap (λ (h : Held). h.number) (sym is) ∙ g.number;
      more = g.more ++ passing w ∷ [];
      are = ap (λ (l : List Entry). l ++ passing w ∷ []) (ap (λ (h : Held). h.log) (sym is) ∙ g.are)
          ∙ append_assoc log g.more (passing w ∷ []);
      joins = All-append IsJoin g.more (passing w ∷ []) g.joins
          (All-cons IsJoin (passing w) [] (w.number, refl) (All-nil IsJoin));
    }
    by (inr there) = record {
      held = g.held;
      among = inr (in_left v.others (held_log w.number (w.log ++ passing w ∷ []) ∷ w.others) g.held there);
      number = g.number;
      more = g.more;
      are = g.are;
      joins = g.joins;
    }

last_joined : (v w : View) → Grown (logs (joined v w)) w.number w.log
last_joined v w = record {
  held = held_log w.number (w.log ++ passing w ∷ []);
  among = inr (in_right v.others (held_log w.number (w.log ++ passing w ∷ []) ∷ w.others)
      (held_log w.number (w.log ++ passing w ∷ [])) (inl refl));
  number = refl;
  more = passing w ∷ [];
  are = refl;
  joins = All-cons IsJoin (passing w) [] (w.number, refl) (All-nil IsJoin);
}

own_first : (v : View) → Grown (logs v) v.number v.log
own_first v = record {
  held = held_log v.number v.log;
  among = inl refl;
  number = refl;
  more = [];
  are = sym
      (append-nil v.log);
  joins = All-nil IsJoin;
}

abbrev IsGrownIn : View → WorkerView → Type 0
IsGrownIn v w = Grown (logs v) w.pass.view.number w.pass.view.log

all_grown : (ws : List WorkerView) → All (IsGrownIn (all_joined ws)) ws
all_grown [] = All-nil (IsGrownIn (all_joined []))
all_grown (w ∷ []) = All-cons (IsGrownIn w.pass.view) w [] (own_first w.pass.view) (All-nil (IsGrownIn w.pass.view))
all_grown (w ∷ u ∷ ws) =
    let v = all_joined (u ∷ ws) in
    let j = joined v w.pass.view in
    All-cons (IsGrownIn j) w (u ∷ ws) (last_joined v w.pass.view)
    (All-weaker (IsGrownIn v) (IsGrownIn j) (λ x g. with_join v w.pass.view x.pass.view.number x.pass.view.log g)
    (u ∷ ws) (all_grown (u ∷ ws)))

-- ---- the turns behind what was seen

is_part : (l L : Layout) (t : List Turn) (hs : List Held) → LogsAre l L t hs → (h : Held) → In hs h
    → h.log ≡ part_of h.number t
is_part l L t [] shown h there = absurd there
is_part l L t (x ∷ hs) shown h (inl is) = subst (λ (y : Held). y.log ≡ part_of y.number t) (sym is) shown.1
is_part l L t (x ∷ hs) shown h (inr there) = is_part l L t hs shown.2 h there

module _ (l L : Layout) (turns : List Turn) (hs : List Held) (shown : LogsAre l L turns hs) (v : View)
    (seen : HasSeen v) (g : Grown hs v.number v.log) where
  joined_alone : HasJoinedAlone turns v.past v.number
  joined_alone more t r are there own is = All-contains IsJoin g.more (t.event, r) g.joins
      (in_contained g.more (t.event, r) (subst (λ (es : List Entry). In es (t.event, r)) same told))
    where
      told : In (part_of v.number more) (t.event, r)
      told = told_in_part v.number more t r (contained_in more t there) own is

      whole : v.log ++ part_of v.number more ≡ v.log ++ g.more
      whole = ap (λ (es : List Entry). es ++ part_of v.number more) (sym seen.is_part)
          ∙ (sym (part-append v.number v.past more) ∙ (ap (part_of v.number) (sym are)
          ∙ (ap (λ (n : ℕ). part_of n turns) (sym g.number)
          ∙ (sym (is_part l L turns hs shown g.held g.among) ∙ g.are))))

      same : part_of v.number more ≡ g.more
      same = append_cancel_left v.log (part_of v.number more) g.more whole

-- of all
pub all_joined_alone : (l L : Layout) (turns : List Turn) (ws : List WorkerView)
    → LogsAre l L turns (logs (all_joined ws)) → All (λ (w : WorkerView). HasSeen w.pass.view) ws
    → All (λ (w : WorkerView). HasJoinedAlone turns w.pass.view.past w.pass.view.number) ws
all_joined_alone l L turns ws shown seen i d below =
    let w = slice_index_or ws i d in
    joined_alone l L turns (logs (all_joined ws)) shown w.pass.view (seen i d below) (all_grown ws i d below)
