-- What the only worker of a closed set has inserted is in the report, over the page alone.
use Rattle.std.proofs.Common.{◌≡◌, ℕ, ◌<◌, ◌≤◌, inl, inr, ◌⊎◌, Bool, true, List, [], ◌∷◌, ◌++◌, append_assoc, length, length-append, refl, sym, ap, subst, ◌∙◌, arith, eq-eqb}
use Rattle.std.specs.Prelude.{Contains, None, Ok}
use Rattle.std.proofs.lemmas.Bool.{cases_lt}
use Rattle.std.proofs.lemmas.List.{append_cancel_left}
use Rattle.std.proofs.lemmas.List.Elements.{All-head}
use Rattle.nm_edge.specs.Layouts.{Layout}
use Rattle.nm_laws.proofs.ListOrders.{In, in_contained, in_either, in_right}
use Rattle.nm_model.specs.declared.event.Event.{Event}
use Rattle.nm_model.specs.declared.event.Event.TheVariants.{Join, LeaveWith}
use Rattle.nm_model.specs.declared.event.Op.TheVariants.{Has, Insert, Delete}
use Rattle.nm_model.specs.declared.reply.Reply.{Reply}
use Rattle.nm_model.specs.declared.trace.Turn.{Turn}
use Rattle.nm_model.specs.Walks.{Entry}
use Rattle.nm_order.specs.WalksToArrivals.{is_won_flag}
use Rattle.nm_order.proofs.RealTime.{begins_with}
use Rattle.nm_model.specs.Histories.{AnswerStands, answer_turn, call_begun}
use Rattle.nm_steps.specs.declared.view.View.{View}
use Rattle.nm_steps.specs.Rules.{Extends}
use Rattle.nm_steps.specs.Steps.{TreeView}
use Rattle.nm_epoch.specs.Collecting.{capped}
use Rattle.nm_epoch.specs.declared.collecting.HeldQueue.{HeldQueue}
use Rattle.nm_tree.specs.declared.closing.Report.{Report}
use Rattle.nm_tree.specs.Closing.{HasJoinedAlone, SaysClosed}
use Rattle.nm_tree.specs.Running.{AreOfWorkers, HasSeenTurns, TrueAnswersHaveWon, WinsIn, wins}
use Rattle.nm_tree.specs.Workers.{WorkerView, log_held_of}
use Rattle.nm_tree.proofs.JoinsAlone.{told_in_part}
use Rattle.nm_tree.proofs.TurnTotals.{wins_flags}
use Rattle.nm_set.specs.Seats.{IsOwn, SetView}
use Rattle.nm_set.specs.Ends.{SaysEnded}
use Rattle.nm_callers.specs.Adding.{HasAdded}
use Rattle.nm_callers.specs.Meanwhile.{NoneDeleted}
use Rattle.nm_callers.proofs.StayingKeys.{stays_where_none_deleted}
use Rattle.nm_set.proofs.Letters.{some_in}
use Rattle.nm_callers.proofs.Unmade.{Won, answered_none, answers_below, no_call_then, unmade, who_won}

-- ---- what a counter tells

pub own_log : (v : View) → log_held_of v v.number ≡ v.log
own_log v = rw (eq-eqb v.number v.number refl) refl

pub capped_none : (n : ℕ) → capped n ≡ 0 → n ≡ 0
capped_none n is = omega (arith, is)

-- ---- a tree of one worker is closed with one

no_look : Delete ≡ Has → ⊥
no_look is = absurd (cc)

not_a_join : (answer : Bool) (v : ℕ) → ◌≡◌ {A = Event} (LeaveWith answer) (Join v) → ⊥
not_a_join answer v is = absurd (cc)

module _ (b : TreeView) (z : WorkerView) (home : List WorkerView) (k : ℕ) (queues : List HeldQueue) (kept : List ℕ)
    (free reached : ℕ) (one : b.layout.workers ≡ 1) (own : IsOwn b z) (seen : HasSeenTurns z.pass.view)
    (added : HasAdded k z)
    (is : SaysClosed b (z ∷ home) queues kept free reached) where
  abbrev v : View
  v = z.pass.view

  on : Extends is.turns v.past
  on = All-head (λ (w : WorkerView). Extends is.turns w.pass.view.past) z home is.goes_on

  joins : HasJoinedAlone is.turns v.past v.number
  joins = All-head (λ (w : WorkerView). HasJoinedAlone is.turns w.pass.view.past w.pass.view.number) z home is.own

  answer : AnswerStands b.layout added.start.view.past v.past v.number Insert k true
  answer = subst (λ (L : Layout). AnswerStands L added.start.view.past v.past v.number Insert k true) own.own.layout
      added.moment

  number : v.number < b.layout.workers
  number = answers_below b.layout added.start.view.past v.past v.number Insert k true answer
      (subst (λ (L : Layout). AreOfWorkers L v.past) own.own.layout seen.workers)

  same : (w : ℕ) → w < b.layout.workers → w ≡ v.number
  same w less = let low = number in omega (arith, less, low, one)

  -- behind what it has seen its turns are joins
  joined : (t : Turn) (r : Reply) → In on.more t → t.worker ≡ v.number → t.outcome ≡ Ok r → (u : ℕ) × (t.event ≡ Join u)
  joined t r there mine told = joins on.more t r on.is (in_contained on.more t there) mine told

  rests : call_begun v.number is.turns ≡ None
  rests = ap (call_begun v.number) on.is ∙ no_call_then v.number v.past on.more
      (answered_none b.layout added.start.view.past v.past v.number Insert k true answer) joined

  -- it has flagged nothing
  no_flag : WinsIn Delete v.number is.turns → ⊥
  no_flag won = by (in_either v.past on.more x.made.turn
      (subst (λ (ts : List Turn). In ts x.made.turn) on.is x.made.among))
    where
      x : Won Delete v.number is.turns
      x = who_won Delete v.number is.turns won

      by : In v.past x.made.turn ⊎ In on.more x.made.turn → ⊥
      by (inl there) =
          let e : Entry = (x.made.turn.event, x.made.reply) in
          let some = some_in is_won_flag v.log e (subst (λ (l : List Entry). In l e) seen.own
          (told_in_part v.number v.past x.made.turn x.made.reply there x.made.own x.made.accepted))
          (sym (wins_flags x.made.turn.event (Ok x.made.reply)) ∙ x.won) in
          let none = added.unflagged in
          omega (arith, some, none)
      by (inr there) =
          let j = joined x.made.turn x.made.reply there x.made.own x.made.accepted in
          not_won j.0 x.made.reply (ap (λ (e : Event). wins Delete e (Ok x.made.reply)) (sym j.1) ∙ x.won)
        where
          not_won : (u : ℕ) (r : Reply) → wins Delete (Join u) (Ok r) ≡ true → ⊥
          not_won u r is = absurd (cc)

  -- what its calls were answered is in what it has seen
  won : TrueAnswersHaveWon is.turns
  won before since w c are called = by (cases_lt (length before) (length v.past))
    where
      turn : Turn
      turn = answer_turn w true

      mine : w ≡ v.number
      mine = same w (is.headline.workers turn _ (in_contained is.turns turn
          (subst (λ (ts : List Turn). In ts turn) (sym are) (in_right before (turn ∷ since) turn (inl refl)))) refl)

      by : (length before < length v.past) ⊎ (length v.past ≤ length before) → (c.op ≡ Has) ⊎ WinsIn c.op w before
      by (inl less) = within (begins_with before (turn ∷ since) v.past on.more (sym are ∙ on.is) (omega (arith, less)))
        where
          within : (mid : List Turn) × (v.past ≡ before ++ mid) → (c.op ≡ Has) ⊎ WinsIn c.op w before
          within ([], at) = absurd (let size = ap (λ (ts : List Turn). length ts) at in
              let l = length-append before [] in omega (arith, less, size, l))
          within (t ∷ mid, at) =
              let rest : turn ∷ since ≡ t ∷ (mid ++ on.more) = append_cancel_left before (turn ∷ since)
              (t ∷ (mid ++ on.more)) (sym are ∙ (on.is
              ∙ (ap (λ (ts : List Turn). ts ++ on.more) at ∙ append_assoc before (t ∷ mid) on.more))) in
              seen.won before mid w c (at ∙ ap (λ (u : Turn). before ++ u ∷ mid) (sym (first rest))) called
            where
              first : {x y : Turn} {xs ys : List Turn} → x ∷ xs ≡ y ∷ ys → x ≡ y
              first e = cc
      by (inr late) = absurd (beyond (begins_with v.past on.more before (turn ∷ since) (sym on.is ∙ are) late))
        where
          beyond : (mid : List Turn) × (before ≡ v.past ++ mid) → ⊥
          beyond (mid, at) =
              let rest : on.more ≡ mid ++ turn ∷ since = append_cancel_left v.past on.more (mid ++ turn ∷ since)
              (sym on.is ∙ (are ∙ (ap (λ (ts : List Turn). ts ++ turn ∷ since) at
              ∙ append_assoc v.past mid (turn ∷ since)))) in
              let j = joined turn _ (subst (λ (ts : List Turn). In ts turn) (sym rest)
              (in_right mid (turn ∷ since) turn (inl refl))) mine refl in
              not_a_join true j.0 j.1

  none_deleted : NoneDeleted b.layout added.start.view.past is.turns k
  none_deleted acts h a among gone = absurd (unmade b.layout is.turns is.headline.workers won Delete no_look
      (λ w less made. no_flag (subst (λ (u : ℕ). WinsIn Delete u is.turns) (same w less) made))
      (λ w less. ap (λ (u : ℕ). call_begun u is.turns) (same w less) ∙ rests) acts h a among gone.0 gone.2)

  pub has_key : Contains kept k
  has_key =
      let key = added.key in
      (is.headline.set k).1 (
        stays_where_none_deleted b.layout added.start.view.past v.past is.turns v.number k added.key answer on
            is.headline.plain_set none_deleted,
        omega (arith, key),
      )

-- of a set that kept that worker alone
pub reported : (s : SetView) (z : WorkerView) (k : ℕ) (r : Report) → s.kept ≡ z ∷ [] → s.tree.layout.workers ≡ 1
    → IsOwn s.tree z → HasSeenTurns z.pass.view → HasAdded k z → SaysEnded s r → Contains r.keys.items k
reported s z k r kept one own seen added e =
    let C : List WorkerView → Type 0 = λ ws. SaysClosed s.tree ws r.queues.items r.keys.items r.free r.reached in
    let ws = ap (λ (us : List WorkerView). us ++ e.home) kept in
    has_key s.tree z e.home k r.queues.items r.keys.items r.free r.reached one own seen added (subst C ws e.says)
