-- A key is taken: what each round leaves, and what the call tells by all of them.
use Rattle.std.proofs.Common.{◌≡◌, ◌<◌, ◌≤◌, ◌⊎◌, inl, inr, true≢false, ℕ, zero, suc, ◌+◌, ◌*◌, Bool, true, false, List, [], ◌∷◌, ◌++◌, append_assoc, length, refl, sym, ap, subst, ◌∙◌, arith}
use Rattle.std.specs.Prelude.{Option, Some, None, IsSome, option_map, is_some, Result, Ok, Err}
use Rattle.std.proofs.Math.Nat.{suc-mul, mul-add, mul_assoc, mul_comm}
use Rattle.std.proofs.lemmas.List.{length-append}
use Rattle.nm_edge.specs.Keys.{IsKey}
use Rattle.nm_edge.specs.Layouts.{Layout}
use Rattle.nm_edge.specs.declared.edge.Side.TheVariants.{Left, Right}
use Rattle.nm_model.specs.declared.event.Op.{Op}
use Rattle.nm_model.specs.declared.event.Op.TheVariants.{Delete}
use Rattle.nm_model.specs.declared.trace.Turn.{Turn}
use Rattle.nm_model.specs.Walks.{Entry}
use Rattle.nm_steps.specs.Rules.{Extends}
use Rattle.nm_steps.specs.Steps.{TreeView, PassView, IsSamePass, HasSeenAllOf}
use Rattle.nm_steps.proofs.Seeing.{same_then, seen_itself, seen_through}
use Rattle.nm_epoch.specs.declared.collecting.HeldQueue.{HeldQueue}
use Rattle.nm_model.specs.Histories.{call_begun, answer_turn, WasSoBehind}
use Rattle.nm_walks.specs.Bounds.{reach, chain_bound}
use Rattle.nm_calls.specs.Moments.{AnswerHasMoment}
use Rattle.nm_calls.specs.NearKeys.{WasNear, GiveUp}
use Rattle.nm_calls.specs.PlainWalks.{WasSo, most_looks}
use Rattle.nm_calls.specs.Won.{HasWon}
use Rattle.nm_calls.specs.declared.deleting.Unfinished.{Unfinished}
use Rattle.nm_calls.proofs.Adding.{mul_below}
use Rattle.nm_calls.proofs.Rooms.{takes_then}
use Rattle.nm_calls.specs.declared.fault.CallFault.{CallFault}
use Rattle.nm_calls.specs.declared.fault.CallFault.TheVariants as fault
use Rattle.nm_progress.specs.Alone.{RunsAlone}
use Rattle.nm_progress.proofs.RunningAlone.{alone_later, runs_later}
use Rattle.nm_tree.specs.declared.popping.End.{End}
use Rattle.nm_tree.specs.declared.popping.End.TheVariants.{First, FirstBelow, Last, LastFrom}
use Rattle.nm_tree.specs.Answers.{flags_won}
use Rattle.nm_tree.specs.Calls.{MayCall, LeavesNear, LeavesNext, LeavesPrev, LeavesDelete}
use Rattle.nm_tree.specs.Popping.{among, comes_before, IsOutside, WereMissing, pop_bound, SaysPopOf, Finds, LosesRounds, EndsRound, HasPopped, LeavesPop}
use Rattle.nm_tree.specs.Workers.{WorkerView, KeepsOtherQueues, TakeRoom}
use Rattle.nm_tree.proofs.QueueLists.{others_stay, room_stays}

-- ---- what was so in one call was so in a longer one

pub no_shorter : (run earlier : List Turn) → Extends run earlier → length earlier ≤ length run
no_shorter run earlier e =
    let whole : length run ≡ length earlier + length e.more = ap (λ (ts : List Turn). length ts) e.is
    ∙ length-append earlier e.more in
    omega (arith, whole)

-- a moment behind all that was seen is one behind what was seen earlier
pub moment_since : (o p q : PassView) (op : Op) (k : ℕ) (answer : Bool) → HasSeenAllOf p o
    → AnswerHasMoment p q op k answer → AnswerHasMoment o q op k answer
moment_since o p q op k answer past m =
    let seen = no_shorter p.view.past o.view.past past.goes_on in
    let begins = m.begins in
    let whole : p.view.past ++ m.since ≡ o.view.past
    ++ (past.goes_on.more ++ m.since) = ap (λ (ts : List Turn). ts ++ m.since) past.goes_on.is
    ∙ append_assoc o.view.past past.goes_on.more m.since in
    record {
      since = past.goes_on.more ++ m.since;
      pin = m.pin;
      are = m.are ∙ ap (λ (ts : List Turn). ts ++ answer_turn q.view.number answer ∷ []) whole;
      call = ap (call_begun q.view.number) (sym whole) ∙ m.call;
      begins = omega (arith, seen, begins);
      history = m.history;
      each = m.each;
    }

pub was_so_since : (o p q : PassView) (k : ℕ) (answer : Bool) → HasSeenAllOf p o → WasSo p q k answer
    → WasSo o q k answer
was_so_since o p q k answer past was =
    let seen = no_shorter p.view.past o.view.past past.goes_on in
    let later = was.later in
    record {
      so_far = was.so_far;
      rest = was.rest;
      are = was.are;
      later = omega (arith, seen, later);
      pinned = was.pinned;
      gives = was.gives;
    }

-- it was so still, by what has been seen since
pub was_so_on : (o q z : PassView) (k : ℕ) (answer : Bool) → IsSamePass q z → HasSeenAllOf z q → WasSo o q k answer
    → WasSo o z k answer
was_so_on o q z k answer same on was =
    subst (λ (s : PassView). WasSoBehind s.view.layout o.view.past z.view.past s.view.number k answer) (sym same)
    (record {
      so_far = was.so_far;
      rest = was.rest ++ on.goes_on.more;
      are = on.goes_on.is ∙ (ap (λ (l : List Turn). l ++ on.goes_on.more) was.are
          ∙ append_assoc was.so_far was.rest on.goes_on.more);
      later = was.later;
      pinned = was.pinned;
      gives = was.gives;
    })

-- ---- queues

kept_both : (o : ℕ) (h g f : HeldQueue) → g.origin ≡ h.origin → (h.origin ≡ o) ⊎ (g ≡ h) → (g.origin ≡ o) ⊎ (f ≡ g)
    → (h.origin ≡ o) ⊎ (f ≡ h)
kept_both o h g f same (inl e) second = inl e
kept_both o h g f same (inr a) (inl e) = inl (sym same ∙ e)
kept_both o h g f same (inr a) (inr b) = inr (b ∙ a)

others_through : (o : ℕ) (hs gs fs : List HeldQueue) → KeepsOtherQueues o hs gs → KeepsOtherQueues o gs fs
    → KeepsOtherQueues o hs fs
others_through o [] [] [] a b = tt
others_through o [] [] (f ∷ fs) a b = absurd b
others_through o [] (g ∷ gs) fs a b = absurd a
others_through o (h ∷ hs) [] fs a b = absurd a
others_through o (h ∷ hs) (g ∷ gs) [] a b = absurd b
others_through o (h ∷ hs) (g ∷ gs) (f ∷ fs) a b =
    (b.0 ∙ a.0, kept_both o h g f a.0 a.1 b.1, others_through o hs gs fs a.2 b.2)

room_through : (hs gs fs : List HeldQueue) → TakeRoom hs gs → TakeRoom gs fs → TakeRoom hs fs
room_through [] [] [] a b = tt
room_through [] [] (f ∷ fs) a b = absurd b
room_through [] (g ∷ gs) fs a b = absurd a
room_through (h ∷ hs) [] fs a b = absurd a
room_through (h ∷ hs) (g ∷ gs) [] a b = absurd b
room_through (h ∷ hs) (g ∷ gs) (f ∷ fs) a b = (
  takes_then h.queue g.queue f.queue a.0 b.0,
  room_through hs gs fs a.1
      b.1,
)

-- ---- going on

-- the worker has gone on by calls, in so many steps at most, by which so many flags were won
pub record GoesOn (most flags : ℕ) (w z : WorkerView) : Type 0 where
  pub same : IsSamePass w.pass z.pass
  pub past : HasSeenAllOf z.pass w.pass
  pub won : HasWon w.pass.view.log z.pass.view.log 0 flags
  pub steps : length z.pass.view.log ≤ length w.pass.view.log + most
  pub queues : KeepsOtherQueues w.pass.view.number w.queues z.queues
  pub blocks : TakeRoom w.queues z.queues
  pub held : z.held ≡ None
  pub fit : z.fit ≡ w.fit

goes_nowhere : (w : WorkerView) → w.held ≡ None → GoesOn 0 0 w w
goes_nowhere w free = record {
  same = refl;
  past = seen_itself w.pass;
  won = record { links = omega arith; flags = omega arith };
  steps = omega arith;
  queues = others_stay w.pass.view.number w.queues;
  blocks = room_stays w.queues;
  held = free;
  fit = refl;
}

goes_then : (m n flags : ℕ) (w x z : WorkerView) → GoesOn m 0 w x → GoesOn n flags x z → GoesOn (m + n) flags w z
goes_then m n flags w x z a b =
    let number = ap (λ (p : PassView). p.view.number) a.same in
    let links = a.won.links in
    let more_links = b.won.links in
    let flagged = a.won.flags in
    let more_flagged = b.won.flags in
    let first = a.steps in
    let second = b.steps in
    record {
      same = same_then w.pass x.pass z.pass a.same b.same;
      past = seen_through w.pass x.pass z.pass a.past b.past;
      won = record { links = omega (arith, links, more_links); flags = omega (arith, flagged, more_flagged) };
      steps = omega (arith, first, second);
      queues = others_through w.pass.view.number w.queues x.queues z.queues a.queues
          (subst (λ (o : ℕ). KeepsOtherQueues o x.queues z.queues) number b.queues);
      blocks = room_through w.queues x.queues z.queues a.blocks b.blocks;
      held = b.held;
      fit = b.fit ∙ a.fit;
    }

goes_more : (m n flags : ℕ) (w z : WorkerView) → m ≤ n → GoesOn m flags w z → GoesOn n flags w z
goes_more m n flags w z le a = let few = a.steps in
    record {
      same = a.same;
      past = a.past;
      won = a.won;
      steps = omega (arith, few, le);
      queues = a.queues;
      blocks =
          a.blocks;
      held = a.held;
      fit = a.fit;
    }

-- ---- the calls of a round

-- what is told of the key at that end
abbrev pub told_at : End → PassView → PassView → Option ℕ → Type 0
told_at First p q = WasNear Right p q 0
told_at (FirstBelow below) p q = WasNear Right p q 0
told_at Last p q = WasNear Left p q 18446744073709551612
told_at (LastFrom from) p q = WasNear Left p q 18446744073709551612

-- and how its walks end without an answer
abbrev pub gives_up_at : End → Layout → ℕ → List Entry → List Entry → Type 0
gives_up_at First L tries = GiveUp Right L tries 0
gives_up_at (FirstBelow below) L tries = GiveUp Right L tries 0
gives_up_at Last L tries = GiveUp Left L tries 18446744073709551612
gives_up_at (LastFrom from) L tries = GiveUp Left L tries 18446744073709551612

pub found_by : (end : End) (L : Layout) (tries : ℕ) (w z : WorkerView) (r : Result (Option ℕ) CallFault)
    → Finds end L tries w z r → LeavesNear (told_at end) (gives_up_at end L tries) L tries w z r
found_by First L tries w z r l = l
found_by (FirstBelow below) L tries w z r l = l
found_by Last L tries w z r l = l
found_by (LastFrom from) L tries w z r l = l

-- the call that finds the key at that end
pub finds_first : (end : End) (L : Layout) (tries : ℕ) (w z : WorkerView) (r : Result (Option ℕ) CallFault)
    → (end ≡ First) ⊎ ((below : ℕ) × (end ≡ FirstBelow below)) → LeavesNext L tries 0 w z r → Finds end L tries w z r
finds_first end L tries w z r (inl is) l = subst (λ (e : End). Finds e L tries w z r) (sym is) l
finds_first end L tries w z r (inr (below, is)) l = subst (λ (e : End). Finds e L tries w z r) (sym is) l

pub finds_last : (end : End) (L : Layout) (tries : ℕ) (w z : WorkerView) (r : Result (Option ℕ) CallFault)
    → (end ≡ Last) ⊎ ((from : ℕ) × (end ≡ LastFrom from)) → LeavesPrev L tries 18446744073709551612 w z r
    → Finds end L tries w z r
finds_last end L tries w z r (inl is) l = subst (λ (e : End). Finds e L tries w z r) (sym is) l
finds_last end L tries w z r (inr (from, is)) l = subst (λ (e : End). Finds e L tries w z r) (sym is) l

-- of a key that was found
pub record WasFound (end : End) (p q : PassView) (key : ℕ) : Type 0 where
  pub is_key : IsKey key
  pub was : WasSo p q key true
  pub missing : WereMissing (comes_before end) p q key

pub key_found : (end : End) (p q : PassView) (key : ℕ) → told_at end p q (Some key) → WasFound end p q key
key_found First p q key n = record { is_key = n.1; was = n.2; missing = λ j is less. n.3 j (omega arith) less }
key_found (FirstBelow below) p q key n = record {
  is_key = n.1;
  was = n.2;
  missing = λ j is less. n.3 j (omega arith)
      less;
}
key_found Last p q key n = record { is_key = n.1; was = n.2; missing = λ j is above. n.3 j is above }
key_found (LastFrom from) p q key n = record { is_key = n.1; was = n.2; missing = λ j is above. n.3 j is above }

pub none_found : (end : End) (p q : PassView) → told_at end p q None → (j : ℕ) → among end j → WasSo p q j false
none_found First p q n j is = n j (omega arith) is
none_found (FirstBelow below) p q n j is = n j (omega arith) is.0
none_found Last p q n j is = n j is is
none_found (LastFrom from) p q n j is = n j is.0 is.0

-- and where the key that was found is none of these, there is none of them
pub none_inside : (end : End) (p q : PassView) (key : ℕ) → IsOutside end key → WasFound end p q key → (j : ℕ)
    → among end j → WasSo p q j false
none_inside First p q key outside f j is = absurd outside
none_inside (FirstBelow below) p q key outside f j is = f.missing j is.0
    (let less = is.1 in omega (arith, less, outside))
none_inside Last p q key outside f j is = absurd outside
none_inside (LastFrom from) p q key outside f j is = f.missing j is.0 (let le = is.1 in omega (arith, le, outside))

-- of a longer call
pub found_in : (end : End) (o p q z : PassView) (key : ℕ) → HasSeenAllOf p o → IsSamePass q z → HasSeenAllOf z q
    → WasFound end p q key → WasFound end o z key
found_in end o p q z key past same on f = record {
  is_key = f.is_key;
  was = was_so_on o q z key true same on (was_so_since o p q key true past f.was);
  missing = λ j is before. was_so_on o q z j false same on (was_so_since o p q j false past (f.missing j is before));
}

abbrev pub near_bound : Layout → ℕ → ℕ
near_bound L tries = 3 * tries + tries * most_looks (reach L) 1 + 2

abbrev delete_bound : Layout → ℕ → ℕ
delete_bound L tries = tries * (4 * reach L + 8 * chain_bound) + 10

abbrev pub round_bound : Layout → ℕ → ℕ
round_bound L tries = tries * (7 * reach L + 8 * chain_bound + 4) + 12

pub scaled : (t r c d : ℕ) → t * (c * r + d) ≡ c * (t * r) + d * t
scaled t r c d =
    let parts = mul-add t (c * r) d in
    let first : t * (c * r) ≡ c * (t * r) = sym (mul_assoc t c r)
    ∙ (ap (λ (n : ℕ). n * r) (mul_comm t c) ∙ mul_assoc c t r) in
    let second = mul_comm t d in
    omega (arith, parts, first, second)

round_fits : (L : Layout) (t : ℕ) → near_bound L t + delete_bound L t ≤ round_bound L t
round_fits L t =
    let r = reach L in
    let near : t * (1 + r * (3 * 1)) ≡ 3 * (t * r) + 1 * t = ap (λ (n : ℕ). t * n) (omega arith) ∙ scaled t r 3 1 in
    let delete = scaled t r 4 512 in
    let round : t * (7 * r + 512 + 4) ≡ 7 * (t * r) + 516 * t = ap (λ (n : ℕ). t * n) (omega arith)
    ∙ scaled t r 7 516 in
    omega (arith, near, delete, round)

goes_near : (end : End) (L : Layout) (tries : ℕ) (w z : WorkerView) (r : Result (Option ℕ) CallFault)
    → Finds end L tries w z r → GoesOn (near_bound L tries) 0 w z
goes_near end L tries w z r found =
    let l = found_by end L tries w z r found in
    let few = l.steps in
    record {
      same = l.same;
      past = l.past;
      won = l.won;
      steps = omega (arith, few);
      queues = subst (KeepsOtherQueues w.pass.view.number w.queues) (sym l.queues)
          (others_stay w.pass.view.number w.queues);
      blocks = subst (TakeRoom w.queues) (sym l.queues) (room_stays w.queues);
      held = l.held;
      fit = l.fit;
    }

-- the worker is still one of the tree's, and not held
pub may_still : (b : TreeView) (w z : WorkerView) → MayCall b w → IsSamePass w.pass z.pass → z.held ≡ None → MayCall b z
may_still b w z may same free = record {
  own = record {
    table = ap (λ (p : PassView). p.table) same
        ∙ may.own.table;
    layout = ap (λ (p : PassView). p.view.layout) same ∙ may.own.layout;
  };
  free = free;
}

pub may_near : (end : End) (b : TreeView) (tries : ℕ) (w z : WorkerView) (r : Result (Option ℕ) CallFault)
    → MayCall b w → Finds end b.layout tries w z r → MayCall b z
may_near end b tries w z r may found = let l = found_by end b.layout tries w z r found in
    may_still b w z may l.same l.held

goes_delete : (L : Layout) (tries k : ℕ) (w z : WorkerView) (r : Result Bool CallFault)
    → LeavesDelete L tries k w z r → GoesOn (delete_bound L tries) (flags_won r) w z
goes_delete L tries k w z r l =
    let few = l.says.steps in
    record {
      same = l.says.same;
      past = l.says.past;
      won = l.says.won;
      steps = omega (arith, few);
      queues = l.says.queues;
      blocks = l.says.blocks;
      held = l.says.held;
      fit = l.says.fit;
    }

-- both of them
goes_round : (end : End) (L : Layout) (tries k : ℕ) (w y z : WorkerView) (r : Result Bool CallFault)
    → Finds end L tries w y (Ok (Some k)) → LeavesDelete L tries k y z r
    → GoesOn (round_bound L tries) (flags_won r) w z
goes_round end L tries k w y z r found did =
    goes_more (near_bound L tries + delete_bound L tries) (round_bound L tries) (flags_won r) w z (round_fits L tries)
    (goes_then (near_bound L tries) (delete_bound L tries) (flags_won r) w y z
    (goes_near end L tries w y (Ok (Some k)) found) (goes_delete L tries k y z r did))

-- ---- rounds that came too late

pub one_more : (end : End) (L : Layout) (tries n : ℕ) (w x y z : WorkerView) (key : ℕ)
    → LosesRounds end L tries n w x → Finds end L tries x y (Ok (Some key)) → LeavesDelete L tries key y z (Ok false)
    → LosesRounds end L tries (n + 1) w z
one_more end L tries n w x y z key before found did = let more : suc n ≡ n + 1 = omega arith in
    subst (λ (m : ℕ). LosesRounds end L tries m w z) more (x, y, key, before, found, did)

pub record HaveGone (L : Layout) (tries n : ℕ) (w z : WorkerView) : Type 0 where
  pub on : GoesOn (n * round_bound L tries) 0 w z
  pub free : z.pending ≡ None

pub have_gone : (end : End) (L : Layout) (tries n : ℕ) (w z : WorkerView) → w.pending ≡ None → w.held ≡ None
    → LosesRounds end L tries n w z → HaveGone L tries n w z
have_gone end L tries zero w z none free is = subst (HaveGone L tries zero w) (sym is)
    (record { on = goes_more 0 (0 * round_bound L tries) 0 w w (omega arith) (goes_nowhere w free); free = none })
have_gone end L tries (suc n) w z none free (x, y, key, before, found, did) =
    let gone = have_gone end L tries n w x none free before in
    let more = suc-mul n (round_bound L tries) in
    record {
      on = goes_more (n * round_bound L tries + round_bound L tries) (suc n * round_bound L tries) 0 w z
          (omega (arith, more))
          (goes_then (n * round_bound L tries) (round_bound L tries) 0 w x z gone.on
          (goes_round end L tries key x y z (Ok false) found did));
      free = did.says.told.1;
    }

-- ---- what is told at the end

-- whether a key is pending, by the key that is told
pub pends : (w : WorkerView) (told : Option ℕ) → told ≡ option_map (λ (n : Unfinished). n.key) w.pending
    → is_some told ≡ true → IsSome w.pending
pends w told is some = by w.pending (sym some ∙ ap is_some is)
  where
    by : (o : Option Unfinished) → true ≡ is_some (option_map (λ (n : Unfinished). n.key) o) → IsSome o
    by None some = absurd (true≢false some)
    by (Some n) some = refl

pub pends_not : (w : WorkerView) (told : Option ℕ) → told ≡ option_map (λ (n : Unfinished). n.key) w.pending
    → is_some told ≡ false → w.pending ≡ None
pends_not w told is none = by w.pending (sym none ∙ ap is_some is)
  where
    by : (o : Option Unfinished) → false ≡ is_some (option_map (λ (n : Unfinished). n.key) o) → o ≡ None
    by None none = refl
    by (Some n) none = absurd (true≢false (sym none))

module _ (end : End) (L : Layout) (tries : ℕ) (w : WorkerView) (none : w.pending ≡ None) (free : w.held ≡ None) where
  abbrev Says : WorkerView → Result (Option ℕ) CallFault → Type 0
  Says z r = SaysPopOf (among end) (comes_before end) L tries w z r

  -- a key is not pending
  not_pending : {B : Type 0} (x : WorkerView) → x.pending ≡ None → IsSome x.pending → B
  not_pending x is some = absurd (true≢false (sym (subst IsSome is some)))

  -- by all rounds
  so_far : (n flags : ℕ) (x z : WorkerView) → n < tries → HaveGone L tries n w x
      → GoesOn (round_bound L tries) flags x z → GoesOn (pop_bound L tries) flags w z
  so_far n flags x z less gone on =
      goes_more (n * round_bound L tries + round_bound L tries) (pop_bound L tries) flags w z
      (mul_below n tries (round_bound L tries) less)
      (goes_then (n * round_bound L tries) (round_bound L tries) flags w x z gone.on on)

  -- one that ends with the call that finds no key
  half_round : (x z : WorkerView) (r : Result (Option ℕ) CallFault) → Finds end L tries x z r
      → GoesOn (round_bound L tries) 0 x z
  half_round x z r found = let fits = round_fits L tries in
      goes_more (near_bound L tries) (round_bound L tries) 0 x z (omega (arith, fits))
      (goes_near end L tries x z r found)

  by_none : (n : ℕ) (x z : WorkerView) → n < tries → HaveGone L tries n w x → Finds end L tries x z (Ok None)
      → Says z (Ok None)
  by_none n x z less gone found =
      let on = so_far n 0 x z less gone (half_round x z (Ok None) found) in
      let l = found_by end L tries x z (Ok None) found in
      record {
        same = on.same;
        past = on.past;
        told = (none, l.did.0.1);
        took = λ j is. was_so_since w.pass x.pass z.pass j false gone.on.past
            (none_found end x.pass z.pass l.moment j is);
        won = on.won;
        steps = on.steps;
        queues = on.queues;
        blocks = on.blocks;
        held = on.held;
        fit = on.fit;
        alone = λ runs. tt;
      }

  -- one that finds a key which is not to be popped
  by_outside : (n : ℕ) (x z : WorkerView) (key : ℕ) → n < tries → HaveGone L tries n w x
      → Finds end L tries x z (Ok (Some key)) → IsOutside end key → Says z (Ok None)
  by_outside n x z key less gone found outside =
      let on = so_far n 0 x z less gone (half_round x z (Ok (Some key)) found) in
      let l = found_by end L tries x z (Ok (Some key)) found in
      record {
        same = on.same;
        past = on.past;
        told = (none, l.did.0.1);
        took = λ j is. was_so_since w.pass x.pass z.pass j false gone.on.past
            (none_inside end x.pass z.pass key outside (key_found end x.pass z.pass key l.moment) j is);
        won = on.won;
        steps = on.steps;
        queues = on.queues;
        blocks = on.blocks;
        held = on.held;
        fit = on.fit;
        alone = λ runs. tt;
      }

  -- the key that was found, in the whole call
  found_so : (x y z : WorkerView) (key : ℕ) → HasSeenAllOf x.pass w.pass → Finds end L tries x y (Ok (Some key))
      → (r : Result Bool CallFault) → LeavesDelete L tries key y z r → WasFound end w.pass z.pass key
  found_so x y z key past found r did = found_in end w.pass x.pass y.pass z.pass key past did.says.same did.says.past
      (key_found end x.pass y.pass key (found_by end L tries x y (Ok (Some key)) found).moment)

  by_key : (n : ℕ) (x y z : WorkerView) (key : ℕ) → n < tries → HaveGone L tries n w x
      → Finds end L tries x y (Ok (Some key)) → among end key → LeavesDelete L tries key y z (Ok true)
      → Says z (Ok (Some key))
  by_key n x y z key less gone found is did =
      let on = so_far n 1 x z less gone (goes_round end L tries key x y z (Ok true) found did) in
      let was = found_so x y z key gone.on.past found (Ok true) did in
      let seen = (found_by end L tries x y (Ok (Some key)) found).past in
      record {
        same = on.same;
        past = on.past;
        told = (none, did.says.told.1);
        took = (
          is,
          moment_since w.pass y.pass z.pass Delete key true
              (seen_through w.pass x.pass y.pass gone.on.past seen) did.says.moment,
          was.missing,
        );
        won = on.won;
        steps = on.steps;
        queues = on.queues;
        blocks = on.blocks;
        held = on.held;
        fit = on.fit;
        alone = λ runs. tt;
      }

  -- the call that finds a key was not answered
  by_near : (n : ℕ) (x z : WorkerView) (f : CallFault) → n < tries → HaveGone L tries n w x
      → Finds end L tries x z (Err f) → Says z (Err f)
  by_near n x z f less gone found = by f found (found_by end L tries x z (Err f) found)
    where
      by : (f : CallFault) → Finds end L tries x z (Err f)
          → LeavesNear (told_at end) (gives_up_at end L tries) L tries x z (Err f) → Says z (Err f)
      by fault.Busy found l =
          let on = so_far n 0 x z less gone (half_round x z (Err fault.Busy) found) in
          record {
            same = on.same;
            past = on.past;
            told = (none, l.did.0.1);
            took = tt;
            won = on.won;
            steps =
                on.steps;
            queues = on.queues;
            blocks = on.blocks;
            held = on.held;
            fit = on.fit;
            alone = λ runs.
                (let few = l.alone (alone_later w.pass x.pass z.pass gone.on.same gone.on.past l.past runs.alone)
                refl in
                omega (arith, few));
          }
      by fault.Pending found l = not_pending x gone.free l.did.0
      by fault.Full found l = absurd l.did
      by fault.NoMemory found l = absurd l.did
      by fault.Unfinished found l = absurd l.did
      by fault.Pinned found l = absurd l.did

  -- the delete was not
  by_delete : (n : ℕ) (x y z : WorkerView) (key : ℕ) (f : CallFault) → n < tries → HaveGone L tries n w x
      → Finds end L tries x y (Ok (Some key)) → among end key → LeavesDelete L tries key y z (Err f) → Says z (Err f)
  by_delete n x y z key f less gone found is did = by f did
    where
      l : LeavesNear (told_at end) (gives_up_at end L tries) L tries x y (Ok (Some key))
      l = found_by end L tries x y (Ok (Some key)) found

      later : {r : Result Bool CallFault} → RunsAlone w.pass z.pass → LeavesDelete L tries key y z r
          → RunsAlone y.pass z.pass
      later runs did = runs_later w.pass y.pass z.pass (same_then w.pass x.pass y.pass gone.on.same l.same)
          (seen_through w.pass x.pass y.pass gone.on.past l.past) did.says.past runs

      by : (f : CallFault) → LeavesDelete L tries key y z (Err f) → Says z (Err f)
      by fault.Busy did =
          let on = so_far n 0 x z less gone (goes_round end L tries key x y z (Err fault.Busy) found did) in
          record {
            same = on.same;
            past = on.past;
            told = (none, did.says.told.1);
            took = tt;
            won = on.won;
            steps =
                on.steps;
            queues = on.queues;
            blocks = on.blocks;
            held = on.held;
            fit = on.fit;
            alone = λ runs.
                (let few = did.alone (later runs did) in omega (arith, few));
          }
      by fault.NoMemory did =
          let on = so_far n 0 x z less gone (goes_round end L tries key x y z (Err fault.NoMemory) found did) in
          record {
            same = on.same;
            past = on.past;
            told = ((none, did.says.told.0.1), did.says.told.1);
            took = tt;
            won = on.won;
            steps = on.steps;
            queues = on.queues;
            blocks = on.blocks;
            held = on.held;
            fit = on.fit;
            alone = λ runs. did.says.told.1;
          }
      by fault.Unfinished did =
          let on = so_far n 1 x z less gone (goes_round end L tries key x y z (Err fault.Unfinished) found did) in
          let was = found_so x y z key gone.on.past found (Err fault.Unfinished) did in
          record {
            same = on.same;
            past = on.past;
            told = (none, record { key = key; leaf = did.says.told.1 }, did.says.told.2, is, was.was, was.missing);
            took = tt;
            won = on.won;
            steps = on.steps;
            queues = on.queues;
            blocks = on.blocks;
            held = on.held;
            fit = on.fit;
            alone = λ runs. did.alone (later runs did);
          }
      by fault.Pending did = not_pending y l.did.0.1 did.says.told.0
      by fault.Full did = absurd did.says.told
      by fault.Pinned did = absurd did.says.told

  -- all rounds came too late
  by_all : (z : WorkerView) → (RunsAlone w.pass z.pass → tries < 2) → HaveGone L tries tries w z
      → Says z (Err fault.Busy)
  by_all z late gone =
      let on = gone.on in
      record {
        same = on.same;
        past = on.past;
        told = (none, gone.free);
        took = tt;
        won = on.won;
        steps = on.steps;
        queues = on.queues;
        blocks = on.blocks;
        held = on.held;
        fit = on.fit;
        alone = late;
      }

  by_round : (n : ℕ) (x z : WorkerView) (r : Result (Option ℕ) CallFault) → n < tries → HaveGone L tries n w x
      → EndsRound end L tries x z r → Says z r
  by_round n x z (Ok None) less gone (inl found) = by_none n x z less gone found
  by_round n x z (Ok None) less gone (inr (key, found, outside)) = by_outside n x z key less gone found outside
  by_round n x z (Ok (Some key)) less gone (y, found, is, did) = by_key n x y z key less gone found is did
  by_round n x z (Err f) less gone (inl found) = by_near n x z f less gone found
  by_round n x z (Err f) less gone (inr (y, key, found, is, did)) = by_delete n x y z key f less gone found is did

-- the worker was not asked, since a key is pending
by_pending : (end : End) (L : Layout) (tries : ℕ) (w : WorkerView) → w.held ≡ None → IsSome w.pending
    → SaysPopOf (among end) (comes_before end) L tries w w (Err fault.Pending)
by_pending end L tries w free some =
    let on = goes_more 0 (pop_bound L tries) 0 w w (omega arith) (goes_nowhere w free) in
    record {
      same = on.same;
      past = on.past;
      told = (some, refl);
      took = tt;
      won = on.won;
      steps = on.steps;
      queues =
          on.queues;
      blocks = on.blocks;
      held = on.held;
      fit = on.fit;
      alone = λ runs. some;
    }

-- where a worker that runs alone cannot lose so many rounds
abbrev pub LosesNoneAlone : End → Layout → ℕ → WorkerView → WorkerView → Type 0
LosesNoneAlone end L tries w z = LosesRounds end L tries tries w z → RunsAlone w.pass z.pass → tries < 2

pops_so : (end : End) (L : Layout) (tries : ℕ) (w z : WorkerView) (r : Result (Option ℕ) CallFault) → w.held ≡ None
    → (w.pending ≡ None → LosesNoneAlone end L tries w z) → HasPopped end L tries w z r
    → SaysPopOf (among end) (comes_before end) L tries w z r
pops_so end L tries w z r free late (inl (still, is)) = subst (SaysPopOf (among end) (comes_before end) L tries w z)
    (sym is) (subst (λ (x : WorkerView). SaysPopOf (among end) (comes_before end) L tries w x (Err fault.Pending))
    (sym still.1) (by_pending end L tries w free still.0))
pops_so end L tries w z r free late (inr (none, inl (n, x, less, lost, ends))) = by_round end L tries w none free n x
    z r less (have_gone end L tries n w x none free lost) ends
pops_so end L tries w z r free late (inr (none, inr (lost, is))) = subst
    (SaysPopOf (among end) (comes_before end) L tries w z) (sym is)
    (by_all end L tries w none free z (late none lost) (have_gone end L tries tries w z none free lost))

pub leaves_so : (end : End) (L : Layout) (tries : ℕ) (w z : WorkerView) (r : Result (Option ℕ) CallFault)
    → w.held ≡ None → (w.pending ≡ None → LosesNoneAlone end L tries w z) → HasPopped end L tries w z r
    → LeavesPop end L tries w z r
leaves_so end L tries w z r free late did = record { says = pops_so end L tries w z r free late did; did = did }
