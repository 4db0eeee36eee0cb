-- What managed calls leave, by what each part of them leaves.
use Rattle.std.proofs.Common.{◌≡◌, ◌≢◌, ◌≤◌, ◌<◌, ◌⊎◌, inl, inr, true≢false, ℕ, zero, suc, ◌+◌, ◌*◌, ◌==◌, Bool, true, false, cond, not, ◌&&◌, ◌||◌, List, [], ◌∷◌, ◌++◌, append-nil, append_assoc, length, refl, sym, ap, subst, ◌∙◌, arith}
use Rattle.std.specs.Prelude.{◌-◌, ◌^◌, All, drop, min, Option, Some, None, IsSome, Result, Ok, Err, IfOk, IfErr, is_ok}
use Rattle.std.specs.List.{AllZip, prefix_len}
use Rattle.std.proofs.Math.Nat.{suc-mul, zero-mul, add-mul, mul-add, mul_assoc, mul-zero, mul-le-mul_right}
use Rattle.std.proofs.lemmas.List.{append_cancel_left, drop-drop}
use Rattle.std.proofs.lemmas.List.Elements.{Contains-append_left, Contains-append_right}
use Rattle.std.proofs.lemmas.Bool.{eq-eqb}
use Rattle.std.proofs.lemmas.Option.{none-some, same_Some}
use Rattle.nm_edge.specs.Layouts.{Layout}
use Rattle.nm_model.specs.declared.event.Event.{Event}
use Rattle.nm_model.specs.declared.event.Event.TheVariants.{Claim, Look}
use Rattle.nm_model.specs.declared.event.Field.TheVariants.{Birth}
use Rattle.nm_model.specs.declared.event.Op.{Op}
use Rattle.nm_model.specs.declared.event.Op.TheVariants.{Has, Insert, Delete}
use Rattle.nm_model.specs.declared.reply.Reply.{Reply}
use Rattle.nm_model.specs.declared.reply.Reply.TheVariants.{BirthIs, Taken}
use Rattle.nm_model.specs.Step.{last_number}
use Rattle.nm_model.specs.declared.trace.Turn.{Turn}
use Rattle.nm_progress.specs.Alone.{IsAlone, RunsAlone}
use Rattle.nm_progress.specs.Lookups.{WasBusy}
use Rattle.nm_progress.specs.Lost.{ChangeWasBusy}
use Rattle.nm_progress.specs.Moves.{number_of, moves, moves_of_others}
use Rattle.nm_progress.specs.Paid.{links_on, flags_on, cuts_on, tags_on, cuts_in}
use Rattle.nm_progress.specs.Tries.{changes_edge, changes_of_others, interferes, reshapes_of_others}
use Rattle.nm_progress.specs.Walked.{NearWasBusy}
use Rattle.nm_progress.proofs.RunningAlone.{runs_later}
use Rattle.nm_progress.proofs.SplitTurns.{number-append}
use Rattle.nm_steps.specs.Steps.{TreeView, PassView, IsSamePass, HasSeenAllOf}
use Rattle.nm_steps.proofs.Seeing.{seen_itself, seen_through}
use Rattle.nm_epoch.specs.declared.collecting.Entry.{Entry}
use Rattle.nm_epoch.specs.declared.collecting.HeldQueue.{HeldQueue}
use Rattle.nm_epoch.specs.Collecting.{is_ripe, HaveLost}
use Rattle.nm_walks.specs.Bounds.{reach}
use Rattle.nm_calls.specs.Moments.{AnswerHasMoment, HadNoCall}
use Rattle.nm_calls.specs.Won.{HasWon}
use Rattle.nm_calls.specs.declared.deleting.Unfinished.{Unfinished}
use Rattle.nm_calls.specs.declared.fault.CallFault.{CallFault}
use Rattle.nm_calls.specs.declared.fault.CallFault.TheVariants as fault
use Rattle.nm_tree.specs.Answers.{FailsAlone, FinishHasMoment, FinishWasLost, FinishTold, FoundNoSlot, FreesNone, HasMade, links_won, flags_won}
use Rattle.nm_tree.proofs.Answered.{found_ever}
use Rattle.nm_tree.specs.Calls.{LeavesHas, LeavesInsert, LeavesDelete, LeavesAdvance, LeavesCollect, SaysFinish}
use Rattle.nm_tree.specs.Workers.{WorkerView, IsIdle, KeepsOtherQueues, waiting_in}
use Rattle.nm_tree.proofs.Taking.{moment_since}
use Rattle.nm_set.specs.Asked.{UnlessPinned}
use Rattle.nm_set.proofs.WaitingNodes.{freed_longer, freed_now}
use Rattle.nm_set.specs.declared.fault.Fullness.{Fullness}
use Rattle.nm_set.specs.declared.fault.InsertFault.{InsertFault}
use Rattle.nm_set.specs.declared.fault.InsertFault.TheVariants as inserting
use Rattle.nm_set.specs.declared.managed.Options.{Options}
use Rattle.nm_set.specs.Managed.{Answers, Collects, FindsBehind, GoesOn, HasFoundElsewhere, HasSighted, IsLeft, FinishesFirst, IsFullIn, IsReadyIn, Manages, ManagesIn, MetInterference, OnlyLoses, Prepares, Since, StaysPending, WasFull, flags_told_by, interfering, links_told_by, of_insert, round_bound}
use Rattle.nm_set.specs.Rounds.{AnswersIn, Finishes, Inserts, IsKnown, IsOnward, IsReady, IsRelieved, ManagesInsert, Removes, WereBusy, plain, rounds_bound, with_fullness}

-- nothing is not there
pub none_there : {A B : Type 0} (x : Option A) → x ≡ None → IsSome x → B
none_there x e is = absurd (true≢false (sym (subst IsSome e is)))

-- an answer is no fault
pub is_no_fault : {B : Type 0} (answer : Bool) (f : CallFault) → Ok answer ≡ Err f → B
is_no_fault answer f e = absurd (true≢false (ap (λ (q : Result Bool CallFault). is_ok q) e))

-- a call that was answered was made
pub was_made : {does : Type 0} (w z : WorkerView) (answer : Bool) → UnlessPinned does w z (Ok answer) → does
was_made w z answer (inl pinned) = is_no_fault answer fault.Pinned pinned.1
was_made w z answer (inr did) = did.1

abbrev busy : Result Bool CallFault
busy = Err fault.Busy

-- ---- queues

-- the origins are the same, and each queue of another origin has only lost nodes at its front
abbrev OthersOnlyLose : ℕ → List HeldQueue → List HeldQueue → Type 0
OthersOnlyLose o hs gs = AllZip (OnlyLoses o) hs gs

pub lose_nothing : (o : ℕ) (hs : List HeldQueue) → OthersOnlyLose o hs hs
lose_nothing o [] = tt
lose_nothing o (h ∷ hs) = ((refl, inr (0, refl)), lose_nothing o hs)

loses_both : (o : ℕ) (h g f : HeldQueue) → OnlyLoses o h g → OnlyLoses o g f → OnlyLoses o h f
loses_both o h g f (same, inl e) (more, second) = (more ∙ same, inl e)
loses_both o h g f (same, inr a) (more, inl e) = (more ∙ same, inl (sym same ∙ e))
loses_both o h g f (same, inr (n, a)) (more, inr (m, b)) =
    (more ∙ same, inr (n + m, b ∙ (ap (λ (es : List Entry). drop m es) a ∙ drop-drop m n h.queue.items)))

pub lose_through : (o : ℕ) (hs gs fs : List HeldQueue) → OthersOnlyLose o hs gs → OthersOnlyLose o gs fs
    → OthersOnlyLose o hs fs
lose_through o [] [] [] a b = tt
lose_through o [] [] (f ∷ fs) a b = absurd b
lose_through o [] (g ∷ gs) fs a b = absurd a
lose_through o (h ∷ hs) [] fs a b = absurd a
lose_through o (h ∷ hs) (g ∷ gs) [] a b = absurd b
lose_through o (h ∷ hs) (g ∷ gs) (f ∷ fs) a b = (loses_both o h g f a.0 b.0, lose_through o hs gs fs a.1 b.1)

kept_one : (o : ℕ) (h g : HeldQueue) → g.origin ≡ h.origin → (h.origin ≡ o) ⊎ (g ≡ h) → OnlyLoses o h g
kept_one o h g same (inl e) = (same, inl e)
kept_one o h g same (inr e) = (same, inr (0, ap (λ (q : HeldQueue). q.queue.items) e))

pub lose_by_call : (o : ℕ) (hs gs : List HeldQueue) → KeepsOtherQueues o hs gs → OthersOnlyLose o hs gs
lose_by_call o [] [] a = tt
lose_by_call o [] (g ∷ gs) a = absurd a
lose_by_call o (h ∷ hs) [] a = absurd a
lose_by_call o (h ∷ hs) (g ∷ gs) a = (kept_one o h g a.0 a.1, lose_by_call o hs gs a.2)

pub lose_by_collect : (o epoch : ℕ) (hs gs : List HeldQueue) → HaveLost epoch hs gs → OthersOnlyLose o hs gs
lose_by_collect o epoch [] [] a = tt
lose_by_collect o epoch [] (g ∷ gs) a = absurd a
lose_by_collect o epoch (h ∷ hs) [] a = absurd a
lose_by_collect o epoch (h ∷ hs) (g ∷ gs) a = (
  (
    a.0.origin,
    inr
        (prefix_len (is_ripe epoch) h.queue.items, a.0.items),
  ),
  lose_by_collect o epoch hs gs a.1,
)

pub lose_same : (o : ℕ) (hs gs : List HeldQueue) → gs ≡ hs → OthersOnlyLose o hs gs
lose_same o hs gs e = subst (OthersOnlyLose o hs) (sym e) (lose_nothing o hs)

-- ---- going on

-- one pass after another
pub record Follows (p q : PassView) : Type 0 where
  pub same : IsSamePass p q
  pub past : HasSeenAllOf q p

follows_itself : (p : PassView) → Follows p p
follows_itself p = record { same = refl; past = seen_itself p }

pub follows_then : (o p q : PassView) → Follows o p → Follows p q → Follows o q
follows_then o p q first second = record {
  same = second.same ∙ ap (λ (z : PassView). record z
      { view = record z.view { log = q.view.log; past = q.view.past; stores = q.view.stores } }) first.same;
  past = seen_through o p q first.past second.past;
}

pub goes_then : {m n : ℕ} (w x z : WorkerView) → GoesOn m w x → GoesOn n x z → GoesOn (m + n) w z
goes_then {m} {n} w x z a b =
    let both = follows_then w.pass x.pass z.pass (record { same = a.same; past = a.past })
    (record { same = b.same; past = b.past }) in
    let number = ap (λ (p : PassView). p.view.number) a.same in
    let first = a.steps in
    let second = b.steps in
    record {
      same = both.same;
      past = both.past;
      queues = lose_through w.pass.view.number w.queues x.queues z.queues a.queues
          (subst (λ (o : ℕ). OthersOnlyLose o x.queues z.queues) number b.queues);
      steps = omega (arith, first, second);
      held = b.held;
      fit = b.fit ∙ a.fit;
    }

pub goes_more : (m n : ℕ) (w z : WorkerView) → m ≤ n → GoesOn m w z → GoesOn n w z
goes_more m n w z le a = let few = a.steps in
    record {
      same = a.same;
      past = a.past;
      queues = a.queues;
      steps = omega (arith, few, le);
      held = a.held;
      fit =
          a.fit;
    }

pub goes_nowhere : (w : WorkerView) → w.held ≡ None → GoesOn 0 w w
goes_nowhere w free = record {
  same = refl;
  past = seen_itself w.pass;
  queues = lose_nothing w.pass.view.number
      w.queues;
  steps = omega arith;
  held = free;
  fit = refl;
}

-- a call of the tree is in one round
in_round : (t : ℕ) (L : Layout) (a b x : ℕ) → x ≡ t * (4 * reach L + 512) → b ≤ a + x + 6 * L.nodes + 10
    → b ≤ a + (x + 7 * L.nodes + 2 * L.workers + 12)
in_round t L a b x is few = omega (arith, few)

pub in_tries : (t : ℕ) (L : Layout) (a b x : ℕ) → x ≡ t * (4 * reach L + 512) → b ≤ a + x + 10
    → b ≤ a + (x + 7 * L.nodes + 2 * L.workers + 12)
in_tries t L a b x is few = omega (arith, few)

pub goes_advance : (m : ℕ) (w z : WorkerView) → {a : _} → w.held ≡ None → LeavesAdvance m w z a → GoesOn (m + 1) w z
goes_advance m w z free l = let few = l.steps in record {
  same = l.same;
  past = l.past;
  queues = lose_same w.pass.view.number w.queues z.queues l.queues;
  steps = omega (arith, few);
  held = l.place.1 ∙ free;
  fit = l.fit;
}

pub goes_collect : (n : ℕ) (w z : WorkerView) → {c : _} → w.held ≡ None → LeavesCollect n w z c → GoesOn n w z
goes_collect n w z {c} free l = record {
  same = l.same;
  past = l.past;
  queues = lose_by_collect w.pass.view.number c.epoch w.queues z.queues l.lost;
  steps = l.steps;
  held = l.place.1 ∙ free;
  fit = l.fit;
}

-- ---- what is won

-- between two workers so many links and flags were won
abbrev pub Wins : WorkerView → WorkerView → ℕ → ℕ → Type 0
Wins w z l f = HasWon w.pass.view.log z.pass.view.log l f

pub wins_nothing : (w : WorkerView) → Wins w w 0 0
wins_nothing w = record { links = omega arith; flags = omega arith }

pub wins_after : (l f : ℕ) (w x z : WorkerView) → Wins w x 0 0 → Wins x z l f → Wins w z l f
wins_after l f w x z first second =
    let a = first.links in
    let b = second.links in
    let c = first.flags in
    let d = second.flags in
    record { links = omega (arith, a, b); flags = omega (arith, c, d) }

pub wins_before : (l f : ℕ) (w x z : WorkerView) → Wins w x l f → Wins x z 0 0 → Wins w z l f
wins_before l f w x z first second =
    let a = first.links in
    let b = second.links in
    let c = first.flags in
    let d = second.flags in
    record { links = omega (arith, a, b); flags = omega (arith, c, d) }

insert_links : (r : Result Bool CallFault) → links_won r ≡ links_told_by Insert r
insert_links (Ok true) = refl
insert_links (Ok false) = refl
insert_links (Err f) = refl

delete_flags : (r : Result Bool CallFault) → flags_won r ≡ flags_told_by Delete r
delete_flags (Ok true) = refl
delete_flags (Ok false) = refl
delete_flags (Err fault.Busy) = refl
delete_flags (Err fault.Full) = refl
delete_flags (Err fault.NoMemory) = refl
delete_flags (Err fault.Unfinished) = refl
delete_flags (Err fault.Pending) = refl
delete_flags (Err fault.Pinned) = refl

-- a call that is busy, or finds an earlier remove pending, has won nothing
wins_none : (op : Op) (f : CallFault) → f ≢ fault.Unfinished
    → (links_told_by op (Err f) ≡ 0) × (flags_told_by op (Err f) ≡ 0)
wins_none Has f other = (refl, refl)
wins_none Insert f other = (refl, refl)
wins_none Delete fault.Busy other = (refl, refl)
wins_none Delete fault.Full other = (refl, refl)
wins_none Delete fault.NoMemory other = (refl, refl)
wins_none Delete fault.Unfinished other = absurd (other refl)
wins_none Delete fault.Pending other = (refl, refl)
wins_none Delete fault.Pinned other = (refl, refl)

-- ---- between two moments of a pass

module _ (o p q z : PassView) (first : Follows o p) (last : Follows q z) where
  turns_from : (turns : List Turn) → q.view.past ≡ p.view.past ++ turns
      → z.view.past ≡ o.view.past ++ (first.past.goes_on.more ++ (turns ++ last.past.goes_on.more))
  turns_from turns is = last.past.goes_on.is ∙ (ap (λ (l : List Turn). l ++ last.past.goes_on.more)
      (is ∙ ap (λ (l : List Turn). l ++ turns) first.past.goes_on.is)
      ∙ (append_assoc (o.view.past ++ first.past.goes_on.more) turns last.past.goes_on.more
      ∙ append_assoc o.view.past first.past.goes_on.more (turns ++ last.past.goes_on.more)))

  -- what holds of turns, and of more turns before and after them, since an earlier moment and until a
  -- later one
  pub since_within : (P : List Turn → Type 0) → ((xs ys zs : List Turn) → P ys → P (xs ++ (ys ++ zs))) → Since p q P
      → Since o z P
  since_within P grows (turns, is, so) = (
    first.past.goes_on.more
        ++ (turns ++ last.past.goes_on.more),
    turns_from turns is,
    grows first.past.goes_on.more turns
        last.past.goes_on.more so,
  )

made_within : (w : ℕ) (e : Event) (r : Reply) (xs ys zs : List Turn) → HasMade w ys e r
    → HasMade w (xs ++ (ys ++ zs)) e r
made_within w e r xs ys zs made = Contains-append_right xs (ys ++ zs) _ (Contains-append_left ys zs _ made)

sighted_within : (w epoch : ℕ) (xs ys zs : List Turn) → HasSighted w ys epoch → HasSighted w (xs ++ (ys ++ zs)) epoch
sighted_within w epoch xs ys zs (r, is, made) = (r, is, made_within w _ r xs ys zs made)

found_within : (w i : ℕ) (xs ys zs : List Turn) → HasFoundElsewhere w i ys → HasFoundElsewhere w i (xs ++ (ys ++ zs))
found_within w i xs ys zs (other, epoch, at, apart, sighted, made) =
    (other, epoch, at, apart, sighted_within w epoch xs ys zs sighted, made_within w _ _ xs ys zs made)

moved_within : (times : ℕ) (xs ys zs : List Turn) → times ≤ number_of moves ys
    → times ≤ number_of moves (xs ++ (ys ++ zs))
moved_within times xs ys zs some =
    let front = number-append moves xs (ys ++ zs) in
    let rest = number-append moves ys zs in
    omega (arith, some, front, rest)

finds_within : (w : ℕ) (behind : Option ℕ) (xs ys zs : List Turn) → FindsBehind w behind ys
    → FindsBehind w behind (xs ++ (ys ++ zs))
finds_within w (Some i) xs ys zs found = found_within w i xs ys zs found
finds_within w None xs ys zs (inl sighted) = inl (sighted_within w _ xs ys zs sighted)
finds_within w None xs ys zs (inr moved) = inr (moved_within 2 xs ys zs moved)

pub number_of_pass : (p q : PassView) → IsSamePass p q → q.view.number ≡ p.view.number
number_of_pass p q same = ap (λ (z : PassView). z.view.number) same

pub finds_since : (o p q z : PassView) (behind : Option ℕ) → Follows o p → Follows q z
    → Since p q (FindsBehind p.view.number behind) → Since o z (FindsBehind o.view.number behind)
finds_since o p q z behind first last found =
    subst (λ (w : ℕ). Since o z (FindsBehind w behind)) (number_of_pass o p first.same)
    (since_within o p q z first last (FindsBehind p.view.number behind) (finds_within p.view.number behind) found)

-- a collection serves a call that began before it
pub collects_since : (m : ℕ) (w x : WorkerView) (y q : PassView) → IsKnown w → IsKnown x → GoesOn m w x
    → HasSeenAllOf y x.pass → Follows y q → Collects x y → Collects w q
collects_since m w x y q known later on first last (inl found) = inl
    (subst (λ (v : ℕ). Since w.pass q (HeldBack v)) (number_of_pass w.pass x.pass on.same)
    (since_within w.pass x.pass y q (record { same = on.same; past = on.past }) last (HeldBack x.pass.view.number)
    grows found))
  where
    HeldBack : ℕ → List Turn → Type 0
    HeldBack v ts = ((i : ℕ) × HasFoundElsewhere v i ts) ⊎ HasSighted v ts last_number

    grows : (xs ys zs : List Turn) → ((i : ℕ) × HasFoundElsewhere x.pass.view.number i ys)
        ⊎ HasSighted x.pass.view.number ys last_number
        → ((i : ℕ) × HasFoundElsewhere x.pass.view.number i (xs ++ (ys ++ zs)))
        ⊎ HasSighted x.pass.view.number (xs ++ (ys ++ zs)) last_number
    grows xs ys zs (inl (i, at)) = inl (i, found_within x.pass.view.number i xs ys zs at)
    grows xs ys zs (inr sighted) = inr (sighted_within x.pass.view.number last_number xs ys zs sighted)
collects_since m w x y q known later on first last (inr frees) = inr
    (λ h there e waited. freed_longer q.view.past y.view.past e.node last.past.goes_on
    (freed_now w x y m known later on first frees h there e waited))

-- ---- interference

module _ (op : Op) where
  abbrev count : ℕ → List Turn → ℕ
  count w turns = number_of (moves_of_others w) turns + number_of (interfering op w) turns

  adds : (w : ℕ) (xs ys : List Turn) → count w (xs ++ ys) ≡ count w xs + count w ys
  adds w xs ys =
      let a = number-append (moves_of_others w) xs ys in
      let b = number-append (interfering op w) xs ys in
      omega (arith, a, b)

  pub met_nothing : (p : PassView) → MetInterference op p p 0
  met_nothing p = ([], sym (append-nil p.view.past), omega arith)

  pub met_then : (m n : ℕ) (p q r : PassView) → q.view.number ≡ p.view.number → MetInterference op p q m
      → MetInterference op q r n → MetInterference op p r (m + n)
  met_then m n p q r number (xs, first, some) (ys, second, many) =
      let more = subst (λ (v : ℕ). n ≤ count v ys) number many in
      let whole = adds p.view.number xs ys in (
        xs ++ ys,
        second ∙ (ap (λ (ts : List Turn). ts ++ ys) first ∙ append_assoc p.view.past xs ys),
        omega
            (arith, some, more, whole),
      )

  -- what came before takes nothing away
  pub met_since : (n : ℕ) (p q r : PassView) → Follows p q → MetInterference op q r n → MetInterference op p r n
  met_since n p q r on met = subst (MetInterference op p r) (omega arith)
      (met_then 0 n p q r (number_of_pass p q on.same) (on.past.goes_on.more, on.past.goes_on.is, omega arith) met)

-- ---- rounds of a pop

-- turns of one kind are of another one too
fewer_of : (p q : Turn → Bool) → ((t : Turn) → p t ≡ true → q t ≡ true) → (ts : List Turn)
    → number_of p ts ≤ number_of q ts
fewer_of p q each [] = omega arith
fewer_of p q each (t ∷ ts) = by (p t) (q t) (each t) (fewer_of p q each ts)
  where
    by : (a b : Bool) → (a ≡ true → b ≡ true) → number_of p ts ≤ number_of q ts
        → cond a 1 0 + number_of p ts ≤ cond b 1 0 + number_of q ts
    by true true is rest = omega (arith, rest)
    by true false is rest = absurd (true≢false (sym (is refl)))
    by false b is rest = by' b rest
      where
        by' : (b : Bool) → number_of p ts ≤ number_of q ts → 0 + number_of p ts ≤ cond b 1 0 + number_of q ts
        by' true rest = omega (arith, rest)
        by' false rest = omega (arith, rest)

-- a cut interferes, and so does a change by others of where an edge leads
cut_interferes : (w : ℕ) (t : Turn) → cuts_on t.event t.outcome ≡ true → interferes w t ≡ true
cut_interferes w t is = by (t.worker == w) (links_on t.event t.outcome) (flags_on t.event t.outcome)
    (cuts_on t.event t.outcome) (tags_on t.event t.outcome) is
  where
    by : (o a b c d : Bool) → c ≡ true → cond o c (a || (b || (c || d))) ≡ true
    by true a b c d is = is
    by false true b c d is = refl
    by false false true c d is = refl
    by false false false true d is = refl
    by false false false false d is = absurd (true≢false (sym is))

reshape_interferes : (w : ℕ) (t : Turn) → reshapes_of_others w t ≡ true → interferes w t ≡ true
reshape_interferes w t is = by (t.worker == w) (links_on t.event t.outcome) (flags_on t.event t.outcome)
    (cuts_on t.event t.outcome) (tags_on t.event t.outcome) is
  where
    by : (o a b c d : Bool) → (not o && (a || c)) ≡ true → cond o c (a || (b || (c || d))) ≡ true
    by true a b c d is = absurd (true≢false (sym is))
    by false true b c d is = refl
    by false false true c d is = refl
    by false false false true d is = refl
    by false false false false d is = absurd (true≢false (sym is))

-- a call that finds a key and was busy met interference, and so did one that came too late
pub near_met : (p q : PassView) (tries : ℕ) → 2 ≤ tries → NearWasBusy p q tries → MetInterference Delete p q 1
near_met p q tries two (inl (inl none)) = absurd (omega (arith, two, none))
near_met p q tries two (inl (inr (inl moved))) =
    (moved.turns, moved.is, let some = moved.moved in omega (arith, some, two))
near_met p q tries two (inl (inr (inr (shape, r)))) = (
  r.turns,
  r.is,
  let some = r.reshaped in
      let more = fewer_of (reshapes_of_others p.view.number) (interferes p.view.number)
      (reshape_interferes p.view.number) r.turns in omega (arith, some, more),
)
near_met p q tries two (inr (times, few, r)) = (
  r.turns,
  r.is,
  let some = r.reshaped in
      let more = fewer_of (reshapes_of_others p.view.number) (interferes p.view.number)
      (reshape_interferes p.view.number) r.turns in omega (arith, two, few, some, more),
)

pub late_met : (p q : PassView) (turns : List Turn) → q.view.past ≡ p.view.past ++ turns → 1 ≤ cuts_in turns
    → MetInterference Delete p q 1
late_met p q turns is some = (
  turns,
  is,
  let more = fewer_of (λ t. cuts_on t.event t.outcome) (interferes p.view.number) (cut_interferes p.view.number)
      turns in omega (arith, some, more),
)

pub met_fewer : (op : Op) (m n : ℕ) (p q : PassView) → n ≤ m → MetInterference op p q m → MetInterference op p q n
met_fewer op m n p q few (turns, is, some) = (turns, is, omega (arith, few, some))

-- ---- calls of the tree that were busy

look_met : (p q : PassView) (times : ℕ) → HasSeenAllOf q p → WasBusy p q times → MetInterference Has p q times
look_met p q times past (inl none) = (past.goes_on.more, past.goes_on.is, omega (arith, none))
look_met p q times past (inr (inl moved)) = (moved.turns, moved.is, let some = moved.moved in omega (arith, some))
look_met p q times past (inr (inr reshaped)) = (
  reshaped.turns,
  reshaped.is,
  let some = reshaped.reshaped in
      omega (arith, some),
)

pub insert_met : (p q : PassView) (times : ℕ) → HasSeenAllOf q p → ChangeWasBusy p q times
    → MetInterference Insert p q times
insert_met p q times past (inl none) = (past.goes_on.more, past.goes_on.is, omega (arith, none))
insert_met p q times past (inr (inl moved)) = (moved.turns, moved.is, let some = moved.moved in omega (arith, some))
insert_met p q times past (inr (inr lost)) = (lost.turns, lost.is, let some = lost.interfered in omega (arith, some))

-- ---- a worker that runs alone

-- it does so after what came first
pub runs_on : {m n : ℕ} (w x z : WorkerView) → GoesOn m w x → GoesOn n x z → RunsAlone w.pass z.pass
    → RunsAlone x.pass z.pass
runs_on w x z first last runs = runs_later w.pass x.pass z.pass first.same first.past last.past runs

pub fails_busy : {A : Type 0} (first all t : ℕ) (z : WorkerView) (r : Result A CallFault) → r ≡ Err fault.Busy
    → IfErr r (FailsAlone first all t z) → t < first
fails_busy {A} first all t z r is fails = subst (λ (q : Result A CallFault). IfErr q (FailsAlone first all t z)) is
    fails

pub none_each : (n t : ℕ) → 1 ≤ n → n * t ≡ 0 → t ≡ 0
none_each zero t some is = absurd (omega (arith, some))
none_each (suc n) t some is = let one = suc-mul n t in omega (arith, one, is)

pub all_none : (n t : ℕ) → t ≡ 0 → n * t ≡ 0
all_none n t is = ap (λ (x : ℕ). n * x) is ∙ mul-zero n

-- ---- one call of the tree

has_left : (L : Layout) (t k : ℕ) (w z : WorkerView) (r : Result Bool CallFault) → w.pending ≡ None
    → LeavesHas L t k w z r → IsLeft Has k w z r
has_left L t k w z (Ok answer) none l = l.says.told.1
has_left L t k w z (Err fault.Busy) none l = l.says.told.1
has_left L t k w z (Err fault.Pending) none l = none_there w.pending none l.says.told.0
has_left L t k w z (Err fault.Full) none l = absurd l.says.told
has_left L t k w z (Err fault.NoMemory) none l = absurd l.says.told
has_left L t k w z (Err fault.Unfinished) none l = absurd l.says.told
has_left L t k w z (Err fault.Pinned) none l = absurd l.says.told

insert_left : (L : Layout) (t k : ℕ) (w z : WorkerView) (r : Result Bool CallFault) → w.pending ≡ None
    → LeavesInsert L t k w z r → IsLeft Insert k w z r
insert_left L t k w z (Ok answer) none l = l.says.told.1
insert_left L t k w z (Err fault.Busy) none l = l.says.told.1
insert_left L t k w z (Err fault.Pending) none l = none_there w.pending none l.says.told.0
insert_left L t k w z (Err fault.Full) none l = (refl, l.says.told.0.1, l.says.told.1)
insert_left L t k w z (Err fault.NoMemory) none l = (λ no. (let which = no in cc), l.says.told.0.1, l.says.told.1)
insert_left L t k w z (Err fault.Unfinished) none l = absurd l.says.told
insert_left L t k w z (Err fault.Pinned) none l = absurd l.says.told

delete_left : (L : Layout) (t k : ℕ) (w z : WorkerView) (r : Result Bool CallFault) → w.pending ≡ None
    → LeavesDelete L t k w z r → IsLeft Delete k w z r
delete_left L t k w z (Ok answer) none l = l.says.told.1
delete_left L t k w z (Err fault.Busy) none l = l.says.told.1
delete_left L t k w z (Err fault.Pending) none l = none_there w.pending none l.says.told.0
delete_left L t k w z (Err fault.Full) none l = absurd l.says.told
delete_left L t k w z (Err fault.NoMemory) none l = (λ no. (let which = no in cc), l.says.told.0.1, l.says.told.1)
delete_left L t k w z (Err fault.Unfinished) none l = (refl, l.says.told.1, l.says.told.2)
delete_left L t k w z (Err fault.Pinned) none l = absurd l.says.told

-- one call, asked of a worker that nothing is pending of
abbrev AnswersOnce : Layout → ℕ → Op → ℕ → WorkerView → WorkerView → Result Bool CallFault → Type 0
AnswersOnce L t op k = Answers op k (round_bound t L) t

pub has_answers : (L : Layout) (t k : ℕ) (w z : WorkerView) (r : Result Bool CallFault) → w.pending ≡ None
    → LeavesHas L t k w z r → AnswersOnce L t Has k w z r
has_answers L t k w z r none l = record {
  moment = l.says.moment;
  left = has_left L t k w z r none l;
  won = l.says.won;
  on = record {
    same = l.says.same;
    past = l.says.past;
    queues = lose_same w.pass.view.number w.queues z.queues l.says.queues;
    steps = in_tries t L (length w.pass.view.log) (length z.pass.view.log) (t * (4 * reach L + 512)) refl l.says.steps;
    held = l.says.held;
    fit = l.says.fit;
  };
  busy = λ is. look_met w.pass z.pass t l.says.past (l.says.interfered is);
  alone = λ runs is. (let none' = fails_busy 1 1 t z r is (l.alone runs.alone) in omega (arith, none'));
}

pub insert_answers : (L : Layout) (t k : ℕ) (w z : WorkerView) (r : Result Bool CallFault) → w.pending ≡ None
    → LeavesInsert L t k w z r → AnswersOnce L t Insert k w z r
insert_answers L t k w z r none l = record {
  moment = l.says.moment;
  left = insert_left L t k w z r none l;
  won = subst (λ (n : ℕ). Wins w z n 0) (insert_links r) l.says.won;
  on = record {
    same = l.says.same;
    past = l.says.past;
    queues = lose_by_call w.pass.view.number w.queues z.queues l.says.queues;
    steps = in_round t L (length w.pass.view.log) (length z.pass.view.log) (t * (4 * reach L + 512)) refl l.says.steps;
    held = l.says.held;
    fit = l.says.fit;
  };
  busy = λ is. insert_met w.pass z.pass t l.says.past (l.interfered is);
  alone = λ runs is. (let none' = fails_busy 1 1 t z r is (l.alone runs) in omega (arith, none'));
}

pub delete_answers : (L : Layout) (t k : ℕ) (w z : WorkerView) (r : Result Bool CallFault) → w.pending ≡ None
    → LeavesDelete L t k w z r → AnswersOnce L t Delete k w z r
delete_answers L t k w z r none l = record {
  moment = l.says.moment;
  left = delete_left L t k w z r none l;
  won = subst (λ (n : ℕ). Wins w z 0 n) (delete_flags r) l.says.won;
  on = record {
    same = l.says.same;
    past = l.says.past;
    queues = lose_by_call w.pass.view.number w.queues z.queues l.says.queues;
    steps = in_tries t L (length w.pass.view.log) (length z.pass.view.log) (t * (4 * reach L + 512)) refl l.says.steps;
    held = l.says.held;
    fit = l.says.fit;
  };
  busy = λ is. insert_met w.pass z.pass t l.says.past (l.interfered is);
  alone = λ runs is. (let none' = fails_busy 1 2 t z r is (l.alone runs) in omega (arith, none'));
}

-- unless `Pending` is returned, nothing was pending
pub had_none_has : (L : Layout) (t k : ℕ) (w z : WorkerView) (r : Result Bool CallFault) → r ≢ Err fault.Pending
    → LeavesHas L t k w z r → w.pending ≡ None
had_none_has L t k w z (Ok answer) other l = l.says.told.0
had_none_has L t k w z (Err fault.Busy) other l = l.says.told.0
had_none_has L t k w z (Err fault.Pending) other l = absurd (other refl)
had_none_has L t k w z (Err fault.Full) other l = absurd l.says.told
had_none_has L t k w z (Err fault.NoMemory) other l = absurd l.says.told
had_none_has L t k w z (Err fault.Unfinished) other l = absurd l.says.told
had_none_has L t k w z (Err fault.Pinned) other l = absurd l.says.told

pub had_none_insert : (L : Layout) (t k : ℕ) (w z : WorkerView) (r : Result Bool CallFault) → r ≢ Err fault.Pending
    → LeavesInsert L t k w z r → w.pending ≡ None
had_none_insert L t k w z (Ok answer) other l = l.says.told.0
had_none_insert L t k w z (Err fault.Busy) other l = l.says.told.0
had_none_insert L t k w z (Err fault.Pending) other l = absurd (other refl)
had_none_insert L t k w z (Err fault.Full) other l = l.says.told.0.0
had_none_insert L t k w z (Err fault.NoMemory) other l = l.says.told.0.0
had_none_insert L t k w z (Err fault.Unfinished) other l = absurd l.says.told
had_none_insert L t k w z (Err fault.Pinned) other l = absurd l.says.told

pub had_none_delete : (L : Layout) (t k : ℕ) (w z : WorkerView) (r : Result Bool CallFault) → r ≢ Err fault.Pending
    → LeavesDelete L t k w z r → w.pending ≡ None
had_none_delete L t k w z (Ok answer) other l = l.says.told.0
had_none_delete L t k w z (Err fault.Busy) other l = l.says.told.0
had_none_delete L t k w z (Err fault.Pending) other l = absurd (other refl)
had_none_delete L t k w z (Err fault.Full) other l = absurd l.says.told
had_none_delete L t k w z (Err fault.NoMemory) other l = l.says.told.0.0
had_none_delete L t k w z (Err fault.Unfinished) other l = l.says.told.0
had_none_delete L t k w z (Err fault.Pinned) other l = absurd l.says.told

-- ---- calls in a row

-- in more steps; and after an earlier moment, since which nothing was won
pub answers_more : (op : Op) (k m n s t : ℕ) (w z : WorkerView) (r : Result Bool CallFault) → m ≤ n
    → (r ≡ busy → s ≡ t) → Answers op k m s w z r → Answers op k n t w z r
answers_more op k m n s t w z r le all a = record {
  moment = a.moment;
  left = a.left;
  won = a.won;
  on = goes_more m n w z le a.on;
  busy = λ is. subst (MetInterference op w.pass z.pass) (all is) (a.busy is);
  alone = λ runs is. sym (all is) ∙ a.alone runs is;
}

moment_if : (o p q : PassView) (op : Op) (k : ℕ) (r : Result Bool CallFault) → HasSeenAllOf p o
    → IfOk r (AnswerHasMoment p q op k) → IfOk r (AnswerHasMoment o q op k)
moment_if o p q op k (Ok answer) past m = moment_since o p q op k answer past m
moment_if o p q op k (Err f) past m = tt

-- slots that were tried since a moment were tried since an earlier one
found_since : (o p q : PassView) → HasSeenAllOf p o → FoundNoSlot p q → FoundNoSlot o q
found_since o p q past (turns, is, finds) = (
  past.goes_on.more ++ turns,
  is ∙ (ap (λ (l : List Turn). l ++ turns) past.goes_on.is ∙ append_assoc o.view.past past.goes_on.more turns),
  λ s low high. by s (finds s low high),
)
  where
    by : (s : ℕ) → HasMade q.view.number turns (Claim s) Taken
        ⊎ HasMade q.view.number turns (Look s Birth) (BirthIs last_number)
        → HasMade q.view.number (past.goes_on.more ++ turns) (Claim s) Taken
        ⊎ HasMade q.view.number (past.goes_on.more ++ turns) (Look s Birth) (BirthIs last_number)
    by s (inl made) = inl (Contains-append_right past.goes_on.more turns _ made)
    by s (inr made) = inr (Contains-append_right past.goes_on.more turns _ made)

pub left_since : {A : Type 0} (op : Op) (k : ℕ) (w x z : WorkerView) (r : Result A CallFault)
    → HasSeenAllOf x.pass w.pass → x.pending ≡ None → IsLeft op k x z r → IsLeft op k w z r
left_since op k w x z (Ok answer) past none left = left
left_since op k w x z (Err fault.Busy) past none left = left
left_since op k w x z (Err fault.Full) past none left = (left.0, left.1, found_since w.pass x.pass z.pass past left.2)
left_since op k w x z (Err fault.NoMemory) past none left = left
left_since op k w x z (Err fault.Unfinished) past none left = left
left_since op k w x z (Err fault.Pending) past none left = none_there x.pending none left.0
left_since op k w x z (Err fault.Pinned) past none left = absurd left

pub answers_since : (op : Op) (k m n s t : ℕ) (w x z : WorkerView) (r : Result Bool CallFault) → IsOnward m w x
    → (r ≡ busy → MetInterference op w.pass z.pass t) → (RunsAlone w.pass z.pass → r ≡ busy → t ≡ 0)
    → Answers op k n s x z r → Answers op k (m + n) t w z r
answers_since op k m n s t w x z r first met alone a = record {
  moment = moment_if w.pass x.pass z.pass op k r first.on.past a.moment;
  left = left_since op k w x z r first.on.past first.none a.left;
  won = wins_after (links_told_by op r) (flags_told_by op r) w x z first.won a.won;
  on = goes_then w x z first.on a.on;
  busy = met;
  alone = alone;
}

-- and the same where only the last calls count
pub answers_after : (op : Op) (k m n t : ℕ) (w x z : WorkerView) (r : Result Bool CallFault) → IsOnward m w x
    → Answers op k n t x z r → Answers op k (m + n) t w z r
answers_after op k m n t w x z r first a = answers_since op k m n t t w x z r first
    (λ is. met_since op t w.pass x.pass z.pass (record { same = first.on.same; past = first.on.past }) (a.busy is))
    (λ runs is. a.alone (runs_on w x z first.on a.on runs) is) a

pub onward_itself : (w : WorkerView) → w.pending ≡ None → w.held ≡ None → IsOnward 0 w w
onward_itself w none free = record { on = goes_nowhere w free; none = none; won = wins_nothing w }

pub onward_more : (m n : ℕ) (w z : WorkerView) → m ≤ n → IsOnward m w z → IsOnward n w z
onward_more m n w z le a = record { on = goes_more m n w z le a.on; none = a.none; won = a.won }

pub onward_then : (m n : ℕ) (w x z : WorkerView) → IsOnward m w x → IsOnward n x z → IsOnward (m + n) w z
onward_then m n w x z a b = record {
  on = goes_then w x z a.on b.on;
  none = b.none;
  won = wins_after 0 0 w x z a.won
      b.won;
}

-- a call that was busy
unlike : fault.Busy ≢ fault.Unfinished
unlike is = let which = is in cc

pub onward_busy : (op : Op) (k m t : ℕ) (w z : WorkerView) → Answers op k m t w z busy → IsOnward m w z
onward_busy op k m t w z a =
    let none = wins_none op fault.Busy unlike in
    record {
      on = a.on;
      none = a.left;
      won = subst (λ (n : ℕ). Wins w z n 0) none.0
          (subst (λ (n : ℕ). Wins w z (links_told_by op busy) n) none.1 a.won);
    }

module _ (b : TreeView) (h : Options) (op : Op) where
  most : ℕ → ℕ
  most n = rounds_bound b h n

  pub was_busy : (k : ℕ) (w z : WorkerView) → AnswersOnce b.layout h.tries op k w z busy → WereBusy b h op 1 w z
  was_busy k w z a =
      let one = suc-mul 0 (round_bound h.tries b.layout) in
      let try' = suc-mul 0 h.tries in
      record {
        onward = onward_more (round_bound h.tries b.layout) (1 * round_bound h.tries b.layout) w z
            (omega (arith, one)) (onward_busy op k (round_bound h.tries b.layout) h.tries w z a);
        met = subst (MetInterference op w.pass z.pass) (omega (arith, try')) (a.busy refl);
      }

  pub not_yet_busy : (w : WorkerView) → w.pending ≡ None → w.held ≡ None → WereBusy b h op 0 w w
  not_yet_busy w none free =
      let zero_steps = zero-mul (round_bound h.tries b.layout) in
      let zero_tries = zero-mul h.tries in
      record {
        onward = onward_more 0 (0 * round_bound h.tries b.layout) w w (omega (arith, zero_steps))
            (onward_itself w none free);
        met = subst (MetInterference op w.pass w.pass) (sym zero_tries) (met_nothing op w.pass);
      }

  pub busy_again : (k n : ℕ) (w x z : WorkerView) → WereBusy b h op n w x
      → AnswersOnce b.layout h.tries op k x z busy → WereBusy b h op (n + 1) w z
  busy_again k n w x z first a =
      let steps = add-mul n 1 (round_bound h.tries b.layout) in
      let tries = add-mul n 1 h.tries in
      let last = onward_busy op k (round_bound h.tries b.layout) h.tries x z a in
      record {
        onward = onward_more (n * round_bound h.tries b.layout + round_bound h.tries b.layout)
            ((n + 1) * round_bound h.tries b.layout) w z (omega (arith, steps))
            (onward_then (n * round_bound h.tries b.layout) (round_bound h.tries b.layout) w x z first.onward last);
        met = subst (MetInterference op w.pass z.pass) (omega (arith, tries))
            (met_then op (n * h.tries) h.tries w.pass x.pass z.pass (number_of_pass w.pass x.pass first.onward.on.same)
            first.met (a.busy refl));
      }

  -- some were busy, and then others were made
  pub answers_at_last : (k m n : ℕ) (w x z : WorkerView) (r : Result Bool CallFault) → 1 ≤ n → WereBusy b h op m w x
      → AnswersIn b h op k n x z r → AnswersIn b h op k (m + n) w z r
  answers_at_last k m n w x z r some first a =
      let steps = add-mul m n (round_bound h.tries b.layout) in
      let tries = add-mul m n h.tries in
      answers_more op k (m * round_bound h.tries b.layout + n * round_bound h.tries b.layout)
      ((m + n) * round_bound h.tries b.layout) ((m + n) * h.tries) ((m + n) * h.tries) w z r (omega (arith, steps))
      (λ _. refl)
      (answers_since op k (m * round_bound h.tries b.layout) (n * round_bound h.tries b.layout) (n * h.tries)
      ((m + n) * h.tries) w x z r first.onward
      (λ is. subst (MetInterference op w.pass z.pass) (sym tries)
      (met_then op (m * h.tries) (n * h.tries) w.pass x.pass z.pass
      (number_of_pass w.pass x.pass first.onward.on.same) first.met (a.busy is)))
      (λ runs is. all_none (m + n) h.tries (none_each n h.tries some
      (a.alone (runs_on w x z first.onward.on a.on runs) is))) a)

  pub answers_once : (k : ℕ) (w z : WorkerView) (r : Result Bool CallFault) → AnswersOnce b.layout h.tries op k w z r
      → AnswersIn b h op k 1 w z r
  answers_once k w z r a =
      let one = suc-mul 0 (round_bound h.tries b.layout) in
      let try' = suc-mul 0 h.tries in
      answers_more op k (round_bound h.tries b.layout) (1 * round_bound h.tries b.layout) h.tries (1 * h.tries) w z r
      (omega (arith, one)) (λ _. omega (arith, try')) a

  -- fewer calls, if the last one was not busy
  pub answers_fewer : (k m n : ℕ) (w z : WorkerView) (r : Result Bool CallFault) → m ≤ n → (r ≡ busy → m ≡ n)
      → AnswersIn b h op k m w z r → AnswersIn b h op k n w z r
  answers_fewer k m n w z r few all a = answers_more op k (m * round_bound h.tries b.layout)
      (n * round_bound h.tries b.layout) (m * h.tries) (n * h.tries) w z r
      (mul-le-mul_right (round_bound h.tries b.layout) few) (λ is. ap (λ (j : ℕ). j * h.tries) (all is)) a

  -- the last of at most `rounds` calls, after n that were busy
  pub answers_last : (k n rounds : ℕ) (w x z : WorkerView) (r : Result Bool CallFault) → n + 1 ≤ rounds
      → (r ≡ busy → n + 1 ≡ rounds) → WereBusy b h op n w x → AnswersOnce b.layout h.tries op k x z r
      → AnswersIn b h op k rounds w z r
  answers_last k n rounds w x z r few all first a = answers_fewer k (n + 1) rounds w z r few all
      (answers_at_last k n 1 w x z r (omega arith) first (answers_once k x z r a))

-- ---- a remove that stays pending

-- why a call of the tree did not finish it
stays_lost : (h : Options) (t : ℕ) (w z : WorkerView) → t ≡ min ((h.rounds + 1) * h.tries) (2 ^ 32 - 1)
    → FinishWasLost t w z → StaysPending h w z
stays_lost h t w z is (inl lacks) = inl lacks
stays_lost h t w z is (inr c) = inr (c.turns, c.is, (let many = c.changed in omega (arith, is, many)))

-- what came before takes nothing away
pub stays_since : (h : Options) (w x z : WorkerView) → Follows w.pass x.pass → StaysPending h x z → StaysPending h w z
stays_since h w x z on (inl lacks) = inl lacks
stays_since h w x z on (inr (ts, is, many)) =
    let more = on.past.goes_on.more in
    let same = subst (λ (v : ℕ). min ((h.rounds + 1) * h.tries) (2 ^ 32 - 1) ≤ number_of (changes_of_others v) ts)
    (number_of_pass w.pass x.pass on.same) many in
    let whole = number-append (changes_of_others w.pass.view.number) more ts in
    inr (
      more ++ ts,
      is ∙ (ap (λ (l : List Turn). l ++ ts) on.past.goes_on.is ∙ append_assoc w.pass.view.past more ts),
      omega (arith, same, whole),
    )

-- the property holds if a remove is pending by this result
abbrev pub IfPends : {A : Type 0} → Result A CallFault → Type 0 → Type 0
IfPends (Err fault.Pending) P = P
IfPends (Err fault.Unfinished) P = P
IfPends _ P = Unit {0}

pub pends_if : {A P : Type 0} (r : Result A CallFault) → IfPends r P
    → (r ≡ Err fault.Pending) ⊎ (r ≡ Err fault.Unfinished) → P
pends_if {A} {P} r p (inl is) = subst (λ (q : Result A CallFault). IfPends q P) is p
pends_if {A} {P} r p (inr is) = subst (λ (q : Result A CallFault). IfPends q P) is p

-- if none was pending before, only one that is not finished is pending
pub pends_left : {A P : Type 0} (op : Op) (k : ℕ) (w z : WorkerView) (r : Result A CallFault) → w.pending ≡ None
    → IsLeft op k w z r → (r ≡ Err fault.Unfinished → P) → IfPends r P
pends_left op k w z (Ok answer) none left why = tt
pends_left op k w z (Err fault.Pending) none left why = none_there w.pending none left.0
pends_left op k w z (Err fault.Unfinished) none left why = why refl
pends_left op k w z (Err fault.Busy) none left why = tt
pends_left op k w z (Err fault.Full) none left why = tt
pends_left op k w z (Err fault.NoMemory) none left why = tt
pends_left op k w z (Err fault.Pinned) none left why = tt

-- a worker that runs alone sees no change by others
none_changed : (w : ℕ) (ts : List Turn) → All (λ t. t.worker ≡ w) ts → number_of (changes_of_others w) ts ≡ 0
none_changed w [] own = refl
none_changed w (t ∷ ts) own =
    let rest = none_changed w ts (λ i d below. own (suc i) d (omega (arith, below))) in
    let mine = eq-eqb t.worker w (own 0 t (omega arith)) in
    let calm : changes_of_others w t ≡ false = ap (λ (b : Bool). not b && changes_edge t.event t.outcome) mine in
    let none = ap (λ (b : Bool). cond {A = ℕ} b 1 0) calm in
    omega (arith, none, rest)

pub stays_alone : (h : Options) (w z : WorkerView) → IsAlone w.pass z.pass → StaysPending h w z
    → FailsAlone 1 1 h.tries z fault.Unfinished
stays_alone h w z mine (inl lacks) = inr lacks
stays_alone h w z mine (inr (ts, is, many)) =
    let same : ts ≡ mine.turns = append_cancel_left w.pass.view.past _ _ (sym is ∙ mine.is) in
    let none = none_changed w.pass.view.number ts
    (subst (All (λ t. t.worker ≡ w.pass.view.number)) (sym same) mine.own) in
    let no_try = none_each (h.rounds + 1) h.tries (omega arith) (omega (arith, many, none)) in
    inl (omega (arith, no_try))

-- ---- going on with a remove

-- rounds of u tries have the steps of a call with as many tries
rounds_cover : (n t u x y : ℕ) → t ≤ (n + 1) * u → t * x + y ≤ (n + 1) * (u * x + y)
rounds_cover n t u x y few =
    let more = mul-le-mul_right x few in
    let parts = mul_assoc (n + 1) u x in
    let sum = mul-add (n + 1) (u * x) y in
    let ys = add-mul n 1 y in
    let one = suc-mul 0 y in
    omega (arith, more, parts, sum, ys, one)

steps_cover : (L : Layout) (n t u a b : ℕ) → t ≤ (n + 1) * u → b ≤ a + t * (4 * reach L + 512) + 10
    → b ≤ a + (n + 1) * round_bound u L
steps_cover L n t u a b few steps =
    let all = rounds_cover n t u (4 * reach L + 512) (7 * L.nodes + 2 * L.workers + 12) few in
    let same : round_bound u L ≡ u * (4 * reach L + 512) + (7 * L.nodes + 2 * L.workers + 12) = omega arith in
    let whole = ap (λ (m : ℕ). (n + 1) * m) same in
    omega (arith, steps, all, whole)

module _ (b : TreeView) (h : Options) where
  pub finishes : (t : ℕ) (w z : WorkerView) (r : Result Bool CallFault)
      → t ≡ min ((h.rounds + 1) * h.tries) (2 ^ 32 - 1) → w.held ≡ None
      → (r ≡ Err fault.Unfinished → FinishWasLost t w z) → FreesNone w z → SaysFinish b.layout t w z r
      → Finishes b h w z r
  finishes t w z r is free lost frees l = record {
    on = record {
      same = l.same;
      past = l.past;
      queues = lose_by_call w.pass.view.number w.queues z.queues l.queues;
      steps = steps_cover b.layout h.rounds t h.tries (length w.pass.view.log) (length z.pass.view.log)
          (omega (arith, is)) l.steps;
      held = l.held ∙ free;
      fit = l.fit;
    };
    told = l.told;
    moment = l.moment;
    won = l.won;
    lost = λ so. stays_lost h t w z is (lost so);
    frees = frees;
  }

  pub finish_err : (w z : WorkerView) (f : CallFault) → Finishes b h w z (Err f) → f ≡ fault.Unfinished
  finish_err w z fault.Unfinished a = refl
  finish_err w z fault.Busy a = absurd a.told
  finish_err w z fault.Full a = absurd a.told
  finish_err w z fault.NoMemory a = absurd a.told
  finish_err w z fault.Pending a = absurd a.told
  finish_err w z fault.Pinned a = absurd a.told

  pub finished : (w z : WorkerView) (answer : Bool) → Finishes b h w z (Ok answer)
      → IsOnward (rounds_bound b h (h.rounds + 1)) w z
  finished w z true a = record { on = a.on; none = a.told.1; won = a.won }
  finished w z false a = record {
    on = a.on;
    none = ap (λ (x : WorkerView). x.pending) a.told.1
        ∙ a.told.0;
    won = a.won;
  }

  -- what was pending was removed
  pub finished_earlier : (w z : WorkerView) (answer : Bool) → Finishes b h w z (Ok answer)
      → (u : Unfinished) → w.pending ≡ Some u → (o : PassView) → HadNoCall o w.pass
      → AnswerHasMoment o z.pass Delete u.key true
  finished_earlier w z false a u is o had = absurd (none-some u (sym a.told.0 ∙ is))
  finished_earlier w z true a u is o had = subst (λ (v : Unfinished). AnswerHasMoment o z.pass Delete v.key true)
      (same_Some a.moment.0 u (sym a.moment.1 ∙ is)) (a.moment.2 o had)

  -- nothing was pending, so nothing was done
  pub finished_nothing : (w z : WorkerView) (answer : Bool) → w.pending ≡ None → Finishes b h w z (Ok answer)
      → z ≡ w
  finished_nothing w z true none a = none_there w.pending none a.told.0
  finished_nothing w z false none a = a.told.1

-- ---- what comes before the operation

-- nothing, if nothing is pending and few nodes wait
pub prepares_nothing : (h : Options) (op : Op) (w : WorkerView) → w.pending ≡ None
    → (op ≢ Has → h.collect_after ≤ waiting_in w.queues → ⊥) → Prepares h op w w.pass
prepares_nothing h op w none few = record {
  finished = w.pass;
  first = record { after = seen_itself w.pass; earlier = λ u is o had. absurd (none-some u (sym none ∙ is)) };
  then = seen_itself w.pass;
  collects = λ not none many. absurd (few not many);
}

pub finishes_first : (b : TreeView) (h : Options) (w x : WorkerView) (answer : Bool) → Finishes b h w x (Ok answer)
    → FinishesFirst w x.pass
finishes_first b h w x answer f = record { after = f.on.past; earlier = finished_earlier b h w x answer f }

pub prepares_look : (b : TreeView) (h : Options) (w x : WorkerView) (answer : Bool) → Finishes b h w x (Ok answer)
    → Prepares h Has w x.pass
prepares_look b h w x answer f = record {
  finished = x.pass;
  first = finishes_first b h w x answer f;
  then = seen_itself x.pass;
  collects = λ not none many. absurd (not refl);
}

-- a collection is one round
relieved_in_round : (t : ℕ) (L : Layout) (w z : WorkerView) → IsOnward (L.nodes + 2 * L.workers + 2) w z
    → IsOnward (round_bound t L) w z
relieved_in_round t L w z on = onward_more (L.nodes + 2 * L.workers + 2) (round_bound t L) w z (omega arith) on

module _ (b : TreeView) (h : Options) (w x : WorkerView) (answer : Bool)
    (f : Finishes b h w x (Ok answer)) where
  abbrev one : ℕ
  one = round_bound h.tries b.layout

  all : (h.rounds + 2) * one ≡ (h.rounds + 1) * one + one
  all = let more = suc-mul (h.rounds + 1) one in ap (λ (n : ℕ). n * one) (omega arith) ∙ more

  pub ready_relieved : (z : WorkerView) (behind : Option ℕ) → IsRelieved b.layout x z behind → IsReady b h w z
  ready_relieved z behind r =
      let sum = all in
      record {
        onward = onward_more ((h.rounds + 1) * one + one) ((h.rounds + 2) * one) w z (omega (arith, sum))
            (onward_then ((h.rounds + 1) * one) one w x z (finished b h w x answer f)
            (relieved_in_round h.tries b.layout x z r.onward));
        prepares = λ op. record {
          finished = x.pass;
          first = finishes_first b h w x answer f;
          then = r.onward.on.past;
          collects = λ not none many. subst (λ (v : WorkerView). Collects v z.pass)
              (finished_nothing b h w x answer none f) r.collects;
        };
      }

  pub ready_as_is : waiting_in x.queues < h.collect_after → IsReady b h w x
  ready_as_is few =
      let sum = all in
      record {
        onward = onward_more ((h.rounds + 1) * one) ((h.rounds + 2) * one) w x (omega (arith, sum))
            (finished b h w x answer f);
        prepares = λ op. record {
          finished = x.pass;
          first = finishes_first b h w x answer f;
          then = seen_itself x.pass;
          collects = λ not none many. absurd (let few = subst
              (λ (v : WorkerView). waiting_in v.queues < h.collect_after)
              (finished_nothing b h w x answer none f) few in omega (arith, few, many));
        };
      }

-- ---- the three calls

-- where the remove of an earlier call is not finished, nothing else is done
pub pending_manages : {map : Bool} (b : TreeView) (h : Options) (op : Op) (k : ℕ) (w z : WorkerView)
    → Finishes b h w z (Err fault.Unfinished) → ManagesIn map b h op k w z (Err fault.Pending)
pending_manages b h op k w z f =
    let none = wins_none op fault.Pending (λ is. let which = is in cc) in
    record {
      answers = record {
        moment = tt;
        left = (f.told.0, f.told.1);
        won = subst (λ (n : ℕ). Wins w z n (flags_told_by op (Err fault.Pending))) (sym none.0)
            (subst (λ (n : ℕ). Wins w z 0 n) (sym none.1) f.won);
        on = goes_more ((h.rounds + 1) * round_bound h.tries b.layout)
            ((3 * h.rounds + 5) * round_bound h.tries b.layout) w z
            (mul-le-mul_right (round_bound h.tries b.layout) (omega arith)) f.on;
        busy = λ is. absurd (let no = is in cc);
        alone = λ runs is. absurd (let no = is in cc);
      };
      full = λ is. absurd (let no = is in cc);
      begins = λ other. absurd (other refl);
      alone = λ runs. subst IsSome (sym f.told.1) f.told.0;
      pending = λ is. f.lost refl;
      frees = λ map. f.frees;
    }

-- why it failed alone
managed_fails : (h : Options) (op : Op) (k m : ℕ) (y z : WorkerView) (r : Result Bool CallFault)
    → Answers op k m ((h.rounds + 1) * h.tries) y z r → RunsAlone y.pass z.pass
    → (r ≡ Err fault.Unfinished → FailsAlone 1 1 h.tries z fault.Unfinished) → IfErr r (FailsAlone 1 1 h.tries z)
managed_fails h op k m y z (Ok answer) a runs last = tt
managed_fails h op k m y z (Err fault.Busy) a runs last =
    let none = none_each (h.rounds + 1) h.tries (omega arith) (a.alone runs refl) in omega (arith, none)
managed_fails h op k m y z (Err fault.Unfinished) a runs last = last refl
managed_fails h op k m y z (Err fault.Full) a runs last = found_ever y.pass z.pass a.left.2
managed_fails h op k m y z (Err fault.NoMemory) a runs last = a.left.2
managed_fails h op k m y z (Err fault.Pending) a runs last = subst IsSome (sym a.left.1) a.left.0
managed_fails h op k m y z (Err fault.Pinned) a runs last = absurd a.left

-- the operation, after what came before it
pub manages_in : (map : Bool) (b : TreeView) (h : Options) (op : Op) (k m n : ℕ) (w y z : WorkerView)
    (r : Result Bool CallFault) → m + n ≤ 3 * h.rounds + 5 → IsOnward (rounds_bound b h m) w y
    → IsReadyIn map h op w y.pass
    → Answers op k (rounds_bound b h n) ((h.rounds + 1) * h.tries) y z r → (r ≡ Err fault.Full → IsFullIn map w z)
    → (r ≡ Err fault.Unfinished → StaysPending h y z) → (map ≡ true → FreesNone w z)
    → ManagesIn map b h op k w z r
manages_in map b h op k m n w y z r few on first a full last frees =
    let most = round_bound h.tries b.layout in
    let sum = add-mul m n most in
    let le = mul-le-mul_right most few in
    record {
      answers = answers_more op k (m * most + n * most) ((3 * h.rounds + 5) * most) ((h.rounds + 1) * h.tries)
          ((h.rounds + 1) * h.tries) w z r (omega (arith, sum, le)) (λ _. refl)
          (answers_after op k (m * most) (n * most) ((h.rounds + 1) * h.tries) w y z r on a);
      full = full;
      begins = λ other. (y.pass, first, a.moment);
      alone = λ runs. (let more = runs_on w y z on.on a.on runs in
          managed_fails h op k (rounds_bound b h n) y z r a more
          (λ is. stays_alone h y z more.alone (last is)));
      pending = pends_if r (pends_left op k y z r on.none a.left
          (λ is. stays_since h w y z (record { same = on.on.same; past = on.on.past }) (last is)));
      frees = frees;
    }

-- and so in a set
pub manages : (b : TreeView) (h : Options) (op : Op) (k m n : ℕ) (w y z : WorkerView) (r : Result Bool CallFault)
    → m + n ≤ 3 * h.rounds + 5 → IsOnward (rounds_bound b h m) w y → Prepares h op w y.pass
    → Answers op k (rounds_bound b h n) ((h.rounds + 1) * h.tries) y z r
    → (r ≡ Err fault.Full → (f : Fullness) × WasFull w z f)
    → (r ≡ Err fault.Unfinished → StaysPending h y z) → Manages b h op k w z r
manages b h op k m n w y z r few on first a full last = manages_in false b h op k m n w y z r few on first a full
    last (λ is. absurd (true≢false (sym is)))

-- which was the first thing that it did
pub manages_at_once : (b : TreeView) (h : Options) (op : Op) (k n : ℕ) (w z : WorkerView) (r : Result Bool CallFault)
    → n ≤ 3 * h.rounds + 5 → w.held ≡ None → w.pending ≡ None → (op ≢ Has → h.collect_after ≤ waiting_in w.queues → ⊥)
    → Answers op k (rounds_bound b h n) ((h.rounds + 1) * h.tries) w z r
    → (r ≡ Err fault.Full → (f : Fullness) × WasFull w z f)
    → (r ≡ Err fault.Unfinished → StaysPending h w z) → Manages b h op k w z r
manages_at_once b h op k n w z r few free none tidy a full last =
    let most = round_bound h.tries b.layout in
    let nothing = zero-mul most in
    manages b h op k 0 n w w z r (omega (arith, few))
    (onward_more 0 (0 * most) w w (omega (arith, nothing)) (onward_itself w none free))
    (prepares_nothing h op w none tidy) a full last

-- only an insert is full
pub never_full : {A : Type 0} (op : Op) (k m t : ℕ) (w z : WorkerView) (r : Result Bool CallFault) → op ≢ Insert
    → Answers op k m t w z r → r ≡ Err fault.Full → A
never_full op k m t w z r other a is = absurd (other (subst (IsLeft op k w z) is a.left).0)

-- and only a remove is not finished
pub never_unfinished : {A : Type 0} (op : Op) (k m t : ℕ) (w z : WorkerView) (r : Result Bool CallFault)
    → op ≢ Delete → Answers op k m t w z r → r ≡ Err fault.Unfinished → A
never_unfinished op k m t w z r other a is = absurd (other (subst (IsLeft op k w z) is a.left).0)

-- an answer was given by one call
pub answered : (b : TreeView) (h : Options) (op : Op) (k : ℕ) (w z : WorkerView) (answer : Bool)
    → AnswersOnce b.layout h.tries op k w z (Ok answer) → AnswersIn b h op k (h.rounds + 1) w z (Ok answer)
answered b h op k w z answer a = answers_fewer b h op k 1 (h.rounds + 1) w z (Ok answer) (omega arith)
    (λ is. absurd (let no = is in cc)) (answers_once b h op k w z (Ok answer) a)

-- ---- an insert, and one more after a collection

pub plain_told : (r : Result Bool CallFault) → of_insert (plain r) ≡ r
plain_told (Ok answer) = refl
plain_told (Err f) = refl

pub fullness_told : (behind : Option ℕ) (n : ℕ) (r : Result Bool CallFault) → of_insert (with_fullness behind n r) ≡ r
fullness_told behind n (Ok answer) = refl
fullness_told behind n (Err fault.Busy) = refl
fullness_told behind n (Err fault.Full) = refl
fullness_told behind n (Err fault.NoMemory) = refl
fullness_told behind n (Err fault.Unfinished) = refl
fullness_told behind n (Err fault.Pending) = refl
fullness_told behind n (Err fault.Pinned) = refl

-- what it is if it was full
pub as_full : (w z : WorkerView) (r : Result Bool InsertFault)
    → (of_insert r ≡ Err fault.Full → (f : Fullness) × (r ≡ Err (inserting.Full f)) × WasFull w z f) → (f : Fullness)
    → r ≡ Err (inserting.Full f) → WasFull w z f
as_full w z r full f is = by (full (ap of_insert is))
  where
    same : (g : Fullness) → ◌≡◌ {A = Result Bool InsertFault} (Err (inserting.Full g)) (Err (inserting.Full f)) → g ≡ f
    same g e = cc

    by : (g : Fullness) × (r ≡ Err (inserting.Full g)) × WasFull w z g → WasFull w z f
    by (g, told, was) = subst (WasFull w z) (same g (sym told ∙ is)) was

module _ (b : TreeView) (h : Options) (k : ℕ) (w : WorkerView) where
  abbrev round : ℕ
  round = round_bound h.tries b.layout

  pub inserts_plain : (z : WorkerView) (r : Result Bool CallFault) → r ≢ Err fault.Full
      → AnswersIn b h Insert k (h.rounds + 1) w z r → Inserts b h k w z (plain r)
  inserts_plain z r other a = record {
    answers = subst (λ (q : Result Bool CallFault). Answers Insert k (rounds_bound b h (2 * h.rounds + 3))
        ((h.rounds + 1) * h.tries) w z q) (sym (plain_told r))
        (answers_more Insert k ((h.rounds + 1) * round) ((2 * h.rounds + 3) * round) ((h.rounds + 1) * h.tries)
        ((h.rounds + 1) * h.tries) w z r (mul-le-mul_right round (omega arith)) (λ _. refl) a);
    full = λ is. absurd (other (sym (plain_told r) ∙ is));
  }

  -- no slot was free at first
  module _ (x y z : WorkerView) (behind : Option ℕ) (r : Result Bool CallFault)
      (first : AnswersIn b h Insert k (h.rounds + 1) w x (Err fault.Full)) (relieved : IsRelieved b.layout x y behind)
      (last : AnswersIn b h Insert k (h.rounds + 1) y z r) (known : IsKnown w) (tried : IsKnown x) where
    to_x : IsOnward ((h.rounds + 1) * round) w x
    to_x = record { on = first.on; none = first.left.1; won = first.won }

    to_y : IsOnward ((h.rounds + 1) * round + round) w y
    to_y = onward_then ((h.rounds + 1) * round) round w x y to_x
        (relieved_in_round h.tries b.layout x y relieved.onward)

    found : r ≡ Err fault.Full → WasFull w z (record { waiting = waiting_in z.queues; behind = behind })
    found is = record {
      finds = finds_since w.pass x.pass y.pass z.pass behind (record { same = first.on.same; past = first.on.past })
          (record { same = last.on.same; past = last.on.past }) relieved.finds;
      collected = y.pass;
      after = to_y.on.past;
      collects = collects_since (rounds_bound b h (h.rounds + 1)) w x y.pass y.pass known tried first.on
          relieved.onward.on.past (follows_itself y.pass) relieved.collects;
      tried = (subst (IsLeft Insert k y z) is last.left).2;
      waiting = refl;
    }

    pub inserts_again : Inserts b h k w z (with_fullness behind (waiting_in z.queues) r)
    inserts_again =
        let sum = add-mul (h.rounds + 1) 1 round in
        let whole = add-mul ((h.rounds + 1) + 1) (h.rounds + 1) round in
        let le = mul-le-mul_right {m = (h.rounds + 1) + 1 + (h.rounds + 1)} {n = 2 * h.rounds + 3} round
        (omega arith) in
        let single = suc-mul 0 round in
        record {
          answers = subst (λ (q : Result Bool CallFault). Answers Insert k (rounds_bound b h (2 * h.rounds + 3))
              ((h.rounds + 1) * h.tries) w z q) (sym (fullness_told behind (waiting_in z.queues) r))
              (answers_more Insert k (((h.rounds + 1) * round + round) + (h.rounds + 1) * round)
              ((2 * h.rounds + 3) * round) ((h.rounds + 1) * h.tries) ((h.rounds + 1) * h.tries) w z r
              (omega (arith, sum, whole, le, single)) (λ _. refl)
              (answers_after Insert k ((h.rounds + 1) * round + round) ((h.rounds + 1) * round)
              ((h.rounds + 1) * h.tries) w y z r to_y last));
          full = λ is. (
            record { waiting = waiting_in z.queues; behind = behind },
            ap
                (with_fullness behind (waiting_in z.queues)) (sym (fullness_told behind (waiting_in z.queues) r) ∙ is),
            found (sym (fullness_told behind (waiting_in z.queues) r) ∙ is),
          );
        }

-- what was full after something had come before
pub full_since : (m : ℕ) (w y z : WorkerView) (f : Fullness) → IsKnown w → IsKnown y → GoesOn m w y
    → Follows y.pass z.pass → WasFull y z f → WasFull w z f
full_since m w y z f known later on last full = record {
  finds = finds_since w.pass y.pass z.pass z.pass f.behind (record { same = on.same; past = on.past })
      (follows_itself z.pass) full.finds;
  collected = full.collected;
  after = seen_through w.pass y.pass full.collected on.past full.after;
  collects = collects_since m w y full.collected full.collected known later on full.after
      (follows_itself full.collected) full.collects;
  tried = full.tried;
  waiting = full.waiting;
}

-- the whole of an insert
pub inserts_manage : (b : TreeView) (h : Options) (k m : ℕ) (w y z : WorkerView) (r : Result Bool InsertFault)
    → m ≤ h.rounds + 2 → IsKnown w → IsKnown y → IsOnward (rounds_bound b h m) w y → Prepares h Insert w y.pass
    → Inserts b h k y z r
    → ManagesInsert b h k w z r
inserts_manage b h k m w y z r few known later on first i =
    let full : of_insert r ≡ Err fault.Full → (f : Fullness) × (r ≡ Err (inserting.Full f))
    × WasFull w z f = λ is. (let found = i.full is in (
      found.0,
      found.1,
      full_since (rounds_bound b h m) w y z found.0 known later on.on
          (record { same = i.answers.on.same; past = i.answers.on.past }) found.2,
    )) in (
      manages b h Insert k m (2 * h.rounds + 3) w y z (of_insert r) (omega (arith, few)) on first i.answers
          (λ is. (let found = full is in (found.0, found.2)))
          (never_unfinished Insert k _ _ y z (of_insert r) (λ no. (let which = no in cc)) i.answers),
      as_full w z r full,
    )

-- an answer at once
pub inserts_at_once : (b : TreeView) (h : Options) (k : ℕ) (w z : WorkerView) (answer : Bool)
    → AnswersOnce b.layout h.tries Insert k w z (Ok answer) → Inserts b h k w z (Ok answer)
inserts_at_once b h k w z answer a = inserts_plain b h k w z (Ok answer) (λ is. absurd (let no = is in cc))
    (answered b h Insert k w z answer a)

-- ---- a remove, and what is left to do of it

module _ (b : TreeView) (h : Options) (k : ℕ) (w : WorkerView) where
  abbrev round' : ℕ
  round' = round_bound h.tries b.layout

  removes_so : (z : WorkerView) (r : Result Bool CallFault) → AnswersIn b h Delete k (h.rounds + 1) w z r
      → Answers Delete k (rounds_bound b h (2 * h.rounds + 2)) ((h.rounds + 1) * h.tries) w z r
  removes_so z r a = answers_more Delete k ((h.rounds + 1) * round') ((2 * h.rounds + 2) * round')
      ((h.rounds + 1) * h.tries) ((h.rounds + 1) * h.tries) w z r (mul-le-mul_right round' (omega arith)) (λ _. refl) a

  pub removes_plain : (z : WorkerView) (r : Result Bool CallFault) → r ≢ Err fault.Unfinished
      → AnswersIn b h Delete k (h.rounds + 1) w z r → Removes b h k w z r
  removes_plain z r other a = record { answers = removes_so z r a; lost = λ is. absurd (other is) }

  module _ (x z : WorkerView) (idle : IsIdle w) (none : w.pending ≡ None)
      (first : AnswersIn b h Delete k (h.rounds + 1) w x (Err fault.Unfinished)) where
    abbrev mine : Unfinished
    mine = record { key = k; leaf = first.left.1 }

    goes : (r : Result Bool CallFault) → Finishes b h x z r → GoesOn ((2 * h.rounds + 2) * round') w z
    goes r f =
        let sum = add-mul (h.rounds + 1) (h.rounds + 1) round' in
        let le = mul-le-mul_right {m = (h.rounds + 1) + (h.rounds + 1)} {n = 2 * h.rounds + 2} round' (omega arith) in
        goes_more ((h.rounds + 1) * round' + (h.rounds + 1) * round') ((2 * h.rounds + 2) * round') w z
        (omega (arith, sum, le)) (goes_then w x z first.on f.on)

    had : HadNoCall w.pass x.pass
    had = record { same = first.on.same; past = first.on.past; call = idle none }

    removes_ended : (r : Result Bool CallFault) → Finishes b h x z r
        → Answers Delete k (rounds_bound b h (2 * h.rounds + 2)) ((h.rounds + 1) * h.tries) w z r
    removes_ended (Ok true) f = record {
      moment = finished_earlier b h x z true f mine first.left.2 w.pass had;
      left = f.told.1;
      won = wins_before 0 1 w x z first.won f.won;
      on = goes (Ok true) f;
      busy = λ is. absurd (let no = is in cc);
      alone = λ runs is. absurd (let no = is in cc);
    }
    removes_ended (Ok false) f = absurd (none-some mine (sym f.told.0 ∙ first.left.2))
    removes_ended (Err fault.Unfinished) f = record {
      moment = tt;
      left = (refl, first.left.1, f.told.1 ∙ first.left.2);
      won = wins_before 0 1 w x z first.won f.won;
      on = goes (Err fault.Unfinished) f;
      busy = λ is. absurd (let no = is in cc);
      alone = λ runs is. absurd (let no = is in cc);
    }
    removes_ended (Err fault.Busy) f = absurd f.told
    removes_ended (Err fault.Full) f = absurd f.told
    removes_ended (Err fault.NoMemory) f = absurd f.told
    removes_ended (Err fault.Pending) f = absurd f.told
    removes_ended (Err fault.Pinned) f = absurd f.told

    pub removes_at_last : (r : Result Bool CallFault) → Finishes b h x z r → Removes b h k w z r
    removes_at_last r f = record {
      answers = removes_ended r f;
      lost = λ is. stays_since h w x z (record { same = first.on.same; past = first.on.past }) (f.lost is);
    }

-- ---- a call that failed at once, and what was done after it

-- a call that found an earlier remove pending has changed nothing
pub pending_has : (L : Layout) (t k : ℕ) (w z : WorkerView) (f : CallFault) → f ≡ fault.Pending
    → LeavesHas L t k w z (Err f) → z ≡ w
pending_has L t k w z f is l = (subst (λ (g : CallFault). LeavesHas L t k w z (Err g)) is l).says.told.1

pub pending_insert : (L : Layout) (t k : ℕ) (w z : WorkerView) (f : CallFault) → f ≡ fault.Pending
    → LeavesInsert L t k w z (Err f) → z ≡ w
pending_insert L t k w z f is l = (subst (λ (g : CallFault). LeavesInsert L t k w z (Err g)) is l).says.told.1

pub pending_delete : (L : Layout) (t k : ℕ) (w z : WorkerView) (f : CallFault) → f ≡ fault.Pending
    → LeavesDelete L t k w z (Err f) → z ≡ w
pending_delete L t k w z f is l = (subst (λ (g : CallFault). LeavesDelete L t k w z (Err g)) is l).says.told.1

other_fault : (f : CallFault) → f ≢ fault.Pending → ◌≢◌ {A = Result Bool CallFault} (Err f) (Err fault.Pending)
other_fault f other is = other (let same = is in cc)

pub has_failed : (L : Layout) (t k : ℕ) (w z : WorkerView) (f : CallFault) → f ≢ fault.Pending
    → LeavesHas L t k w z (Err f) → (w.pending ≡ None) × AnswersOnce L t Has k w z (Err f)
has_failed L t k w z f other l = let none = had_none_has L t k w z (Err f) (other_fault f other) l in
    (none, has_answers L t k w z (Err f) none l)

pub insert_failed : (L : Layout) (t k : ℕ) (w z : WorkerView) (f : CallFault) → f ≢ fault.Pending
    → LeavesInsert L t k w z (Err f) → (w.pending ≡ None) × AnswersOnce L t Insert k w z (Err f)
insert_failed L t k w z f other l = let none = had_none_insert L t k w z (Err f) (other_fault f other) l in
    (none, insert_answers L t k w z (Err f) none l)

pub delete_failed : (L : Layout) (t k : ℕ) (w z : WorkerView) (f : CallFault) → f ≢ fault.Pending
    → LeavesDelete L t k w z (Err f) → (w.pending ≡ None) × AnswersOnce L t Delete k w z (Err f)
delete_failed L t k w z f other l = let none = had_none_delete L t k w z (Err f) (other_fault f other) l in
    (none, delete_answers L t k w z (Err f) none l)

-- ---- a call with nothing to do first

pub looks_at_once : (b : TreeView) (h : Options) (k : ℕ) (w z : WorkerView) (r : Result Bool CallFault)
    → w.held ≡ None → w.pending ≡ None → AnswersIn b h Has k (h.rounds + 1) w z r → Manages b h Has k w z r
looks_at_once b h k w z r free none a = manages_at_once b h Has k (h.rounds + 1) w z r (omega arith) free none
    (λ not many. not refl) a (never_full Has k _ _ w z r (λ is. let no = is in cc) a)
    (never_unfinished Has k _ _ w z r (λ is. let no = is in cc) a)

module _ (b : TreeView) (h : Options) (k : ℕ) (w z : WorkerView) (free : w.held ≡ None) (none : w.pending ≡ None)
    (few : waiting_in w.queues < h.collect_after) where
  tidy : (op : Op) → op ≢ Has → h.collect_after ≤ waiting_in w.queues → ⊥
  tidy op not many = omega (arith, few, many)

  pub inserts_tidy : IsKnown w → (r : Result Bool InsertFault) → Inserts b h k w z r → ManagesInsert b h k w z r
  inserts_tidy known r i =
      let most = round_bound h.tries b.layout in
      inserts_manage b h k 0 w w z r (omega arith) known known
      (onward_more 0 (0 * most) w w (omega arith) (onward_itself w none free))
      (prepares_nothing h Insert w none (tidy Insert)) i

  pub removes_tidy : (r : Result Bool CallFault) → Removes b h k w z r → Manages b h Delete k w z r
  removes_tidy r a = manages_at_once b h Delete k (2 * h.rounds + 2) w z r (omega arith) free none (tidy Delete)
      a.answers (never_full Delete k _ _ w z r (λ is. let no = is in cc) a.answers) a.lost

-- a remove after what came before it
pub removes_after : (b : TreeView) (h : Options) (k : ℕ) (w y z : WorkerView) (r : Result Bool CallFault)
    → IsReady b h w y → Removes b h k y z r → Manages b h Delete k w z r
removes_after b h k w y z r ready a = manages b h Delete k (h.rounds + 2) (2 * h.rounds + 2) w y z r (omega arith)
    ready.onward (ready.prepares Delete) a.answers (never_full Delete k _ _ y z r (λ is. let no = is in cc)
    a.answers) a.lost
