-- A crew, and what becomes of it at one place.
use Rattle.std.proofs.Common.{◌≡◌, ◌≢◌, ◌⊎◌, inr, ◌<◌, ◌+◌, ◌++◌, ◌∙◌, ℕ, suc, List, [], ◌∷◌, length, map, slice_set, slice_index_or, All, Option, Some, None, IfSome, refl, sym, ap, append_assoc, arith}
use Rattle.std.specs.Prelude.{sum_by}
use Rattle.std.proofs.lemmas.List.{length-map, append-nil, length-set, set-set, set_comm, get_or-set_other}
use Rattle.std.proofs.lemmas.List.Elements.{All-nil, All-cons, All-head, All-tail, All-set, at_read}
use Rattle.std.proofs.lemmas.List.Sums.{sum_by-cons, sum_by-set}
use Rattle.nm_serial.specs.declared.answer.Answer.{Answer}
use Rattle.nm_epoch.specs.declared.collecting.HeldQueue.{HeldQueue}
use Rattle.nm_epoch.specs.Collecting.{HaveLost}
use Rattle.nm_files.specs.declared.read.entry.ScriptCall.{ScriptCall}
use Rattle.nm_files.specs.declared.read.entry.ScriptCall.TheVariants.{Has, Insert, Delete, Finish, Pin, Unpin, Advance, Collect, Resign}
use Rattle.nm_steps.specs.Steps.{TreeView, IsOf}
use Rattle.nm_tree.specs.Closing.{given_in}
use Rattle.nm_tree.specs.Resigning.{merged}
use Rattle.nm_tree.specs.Workers.{WorkerView, AreNew, KeepsOtherQueues}
use Rattle.nm_tree.proofs.Merging.{length-merged}
use Rattle.nm_serial.specs.Crews.{AreCrewOf, HasAsked, HasDoneAt, HasResignedOrStayed, IsGone, PlaysAll, PlaysLine, present, stands_for, worker_at}
use Rattle.nm_serial.specs.Makes.{IsOwnCall}

-- a place is written
pub placed : (b : TreeView) (crew : List (Option WorkerView)) (i : ℕ) (o : Option WorkerView)
    → IfSome o (λ w. IsOf b w.pass) → AreCrewOf b crew → AreCrewOf b (slice_set crew i o)
placed b crew i o own all = All-set (λ o. IfSome o (λ w. IsOf b w.pass)) crew i o own all

-- it is left empty
pub emptied : (b : TreeView) (crew : List (Option WorkerView)) (i : ℕ) (o : Option WorkerView) → o ≡ None
    → AreCrewOf b crew → AreCrewOf b (slice_set crew i o)
emptied b crew i o none all = placed b crew i o (rw none tt) all

-- ---- how many workers they stand for

-- the queues that a call leaves are as many
pub keeps_many : (o : ℕ) (hs gs : List HeldQueue) → KeepsOtherQueues o hs gs → length gs ≡ length hs
keeps_many o [] [] keeps = refl
keeps_many o [] (g ∷ gs) keeps = absurd keeps
keeps_many o (h ∷ hs) [] keeps = absurd keeps
keeps_many o (h ∷ hs) (g ∷ gs) keeps = ap suc (keeps_many o hs gs keeps.2)

pub lost_many : (epoch : ℕ) (hs gs : List HeldQueue) → HaveLost epoch hs gs → length gs ≡ length hs
lost_many epoch [] [] lost = refl
lost_many epoch [] (g ∷ gs) lost = absurd lost
lost_many epoch (h ∷ hs) [] lost = absurd lost
lost_many epoch (h ∷ hs) (g ∷ gs) lost = ap suc (lost_many epoch hs gs lost.1)

-- an heir stands for those of both
pub merged_many : (queues hs gs : List HeldQueue) → queues ≡ merged hs gs → length queues ≡ length hs + length gs
merged_many queues hs gs is = ap (λ (l : List HeldQueue). length l) is ∙ length-merged hs gs

-- a place is written: for so many fewer, and for so many more
pub weighed : (crew : List (Option WorkerView)) (i : ℕ) (o : Option WorkerView) → i < length crew
    → sum_by stands_for (slice_set crew i o) + stands_for (worker_at crew i) ≡ sum_by stands_for crew + stands_for o
weighed crew i o lt = sum_by-set stands_for crew i o None lt

-- those that have not resigned stand for as many as all
pub present_stand_for : (crew : List (Option WorkerView)) → given_in (present crew) ≡ sum_by stands_for crew
present_stand_for [] = refl
present_stand_for (None ∷ crew) = present_stand_for crew
    ∙ sym (sum_by-cons stands_for None crew ∙ zero-more (sum_by stands_for crew))
  where
    zero-more : (n : ℕ) → 0 + n ≡ n
    zero-more n = omega arith
present_stand_for (Some w ∷ crew) =
    sum_by-cons (λ (w : WorkerView). length w.queues) w (present crew)
    ∙ ap (λ n. length w.queues + n) (present_stand_for crew) ∙ sym (sum_by-cons stands_for (Some w) crew)

-- the workers of a new tree stand for themselves
pub new_stand_for : (b : TreeView) (n : ℕ) (ws : List WorkerView) → AreNew b n ws
    → sum_by stands_for (map Some ws) ≡ length ws
new_stand_for b n [] new = refl
new_stand_for b n (w ∷ ws) new =
    let one : length w.queues ≡ 1 = sym (length-map w.queues (λ (h : HeldQueue). h.queue.items)) ∙ ap length new.4 in
    let more = new_stand_for b (suc n) ws new.5 in
    let first = sum_by-cons stands_for (Some w) (map Some ws) in
    omega (arith, one, more, first)

-- ---- those that have not resigned

pub present_all : (ws : List WorkerView) → present (map Some ws) ≡ ws
present_all [] = refl
present_all (w ∷ ws) = ap (λ l. w ∷ l) (present_all ws)

pub present_are_of : (b : TreeView) (crew : List (Option WorkerView)) → AreCrewOf b crew
    → All (λ w. IsOf b w.pass) (present crew)
present_are_of b [] all = All-nil (λ (w : WorkerView). IsOf b w.pass)
present_are_of b (None ∷ crew) all = present_are_of b crew
    (All-tail (λ (o : Option WorkerView). IfSome o (λ w. IsOf b w.pass)) None crew all)
present_are_of b (Some w ∷ crew) all =
    All-cons (λ (w : WorkerView). IsOf b w.pass) w (present crew)
    (All-head (λ (o : Option WorkerView). IfSome o (λ w. IsOf b w.pass)) (Some w) crew all)
    (present_are_of b crew (All-tail (λ (o : Option WorkerView). IfSome o (λ w. IsOf b w.pass)) (Some w) crew all))

-- ---- lines

-- a call that is its worker's alone
pub own_line_at : (b : TreeView) (tries n : ℕ) (call : ScriptCall) (crew : List (Option WorkerView))
    (z : Option WorkerView) (a : Answer) → IsOwnCall call → HasDoneAt b tries call (worker_at crew n) z a
    → PlaysLine b tries n call crew a (slice_set crew n z)
own_line_at b tries n (Has k) crew z a own did = (z, did, refl)
own_line_at b tries n (Insert k) crew z a own did = (z, did, refl)
own_line_at b tries n (Delete k) crew z a own did = (z, did, refl)
own_line_at b tries n Finish crew z a own did = (z, did, refl)
own_line_at b tries n Pin crew z a own did = (z, did, refl)
own_line_at b tries n Unpin crew z a own did = (z, did, refl)
own_line_at b tries n Advance crew z a own did = (z, did, refl)
own_line_at b tries n Collect crew z a own did = (z, did, refl)
own_line_at b tries n (Resign heir) crew z a own did = absurd own

-- the line in front of others
pub line_first : (b : TreeView) (tries : ℕ) (all rest : List (ℕ × ScriptCall)) (e : ℕ × ScriptCall) (a : Answer)
    (more : List Answer) (crew mid z : List (Option WorkerView)) → all ≡ e ∷ rest
    → PlaysLine b tries e.0 e.1 crew a mid → PlaysAll b tries rest more mid z → PlaysAll b tries all (a ∷ more) crew z
line_first b tries all rest e a more crew mid z cut line next = rw cut (mid, line, next)

-- both places are emptied and written again
pub written : (crew : List (Option WorkerView)) (heir leaver : ℕ) (taken still e f : Option WorkerView)
    → leaver ≢ heir → slice_set (slice_set (slice_set (slice_set crew heir e) leaver f) heir taken) leaver still
    ≡ slice_set (slice_set crew heir taken) leaver still
written crew heir leaver taken still e f two =
    ap (λ (l : List (Option WorkerView)). slice_set l leaver still)
    (set_comm (slice_set crew heir e) leaver heir f taken two
    ∙ ap (λ (l : List (Option WorkerView)). slice_set l leaver f) (set-set crew heir e taken))
    ∙ set-set (slice_set crew heir taken) leaver f still

-- the first place is left, and then the others
pub present_first : (ws more all : List WorkerView) (rest left : List (Option WorkerView)) (o : Option WorkerView)
    → rest ≡ o ∷ left → more ≡ ws ++ present (o ∷ []) → ws ++ present rest ≡ all → more ++ present left ≡ all
present_first ws more all rest left None cut put told = rw (put, append-nil ws) (rw cut at told)
present_first ws more all rest left (Some w) cut put told = rw (put, append_assoc) (rw cut at told)

-- ---- places

-- what was read there stands there
pub stands_at : (crew : List (Option WorkerView)) (i : ℕ) (o : Option WorkerView) → i < length crew
    → o ≡ slice_index_or crew i o → worker_at crew i ≡ o
stands_at crew i o lt is = at_read crew (λ (y : Option WorkerView). y ≡ o) i o lt is refl None

-- one place is written by a call
pub line_keeps_whole : (crew : List (Option WorkerView)) (i : ℕ) (o z : Option WorkerView) → i < length crew
    → worker_at crew i ≡ o → stands_for z ≡ stands_for o
    → sum_by stands_for (slice_set crew i z) ≡ sum_by stands_for crew
line_keeps_whole crew i o z lt is same = let w = weighed crew i z lt in let old = ap stands_for is in
    omega (arith, w, old, same)

-- two places are emptied and written by a resigning
module _ (crew : List (Option WorkerView)) (leaver heir : ℕ) (taking leaving taken : WorkerView)
    (still e f : Option WorkerView) (two : leaver ≢ heir) (heir_is : worker_at crew heir ≡ Some taking)
    (leaver_was : worker_at (slice_set crew heir e) leaver ≡ Some leaving) where
  leaver_is : worker_at crew leaver ≡ Some leaving
  leaver_is = sym (get_or-set_other crew heir leaver e None two) ∙ leaver_was

  pub has_asked : (a : Answer) → HasResignedOrStayed taking leaving taken still a
      → HasAsked leaver heir crew a (slice_set (slice_set (slice_set (slice_set crew heir e) leaver f) heir
      (Some taken)) leaver still)
  has_asked a did = record {
    two = two;
    taking = taking;
    leaving = leaving;
    taken = taken;
    still = still;
    heir_is =
        heir_is;
    leaver_is = leaver_is;
    did = did;
    places = written crew heir leaver (Some taken) still e f two;
  }

  abbrev after : List (Option WorkerView)
  after = slice_set (slice_set (slice_set (slice_set crew heir e) leaver f) heir (Some taken)) leaver still

  pub has_asked_if : (r : Option Answer) → IfSome r (HasResignedOrStayed taking leaving taken still)
      → IfSome r (λ a. IsGone leaver heir crew a after ⊎ HasAsked leaver heir crew a after)
  has_asked_if None did = tt
  has_asked_if (Some a) did = inr (has_asked a did)

  pub resigning_keeps_whole : heir < length crew → leaver < length crew
      → stands_for (Some taken) + stands_for still ≡ stands_for (Some taking) + stands_for (Some leaving)
      → sum_by stands_for (slice_set (slice_set (slice_set (slice_set crew heir e) leaver f) heir (Some taken))
      leaver still) ≡ sum_by stands_for crew
  resigning_keeps_whole hl ll same =
      let first = weighed crew heir (Some taken) hl in
      let long = length-set crew heir (Some taken) in
      let second = weighed (slice_set crew heir (Some taken)) leaver still (omega (arith, ll, long)) in
      let old = ap stands_for heir_is in
      let other = ap stands_for (get_or-set_other crew heir leaver (Some taken) None two ∙ leaver_is) in
      rw (written crew heir leaver (Some taken) still e f two) (omega (arith, first, second, old, other, same))

-- all that are left stand for all workers
pub whole_at_end : (b : TreeView) (ws left : List WorkerView) (crew after : List (Option WorkerView)) (n : ℕ)
    → AreNew b 0 ws → length ws ≡ n → b.layout.workers ≡ n → crew ≡ map Some ws
    → sum_by stands_for after ≡ sum_by stands_for crew → left ≡ present after → given_in left ≡ b.layout.workers
whole_at_end b ws left crew after n new many sizes places kept is =
    let start : sum_by stands_for crew ≡ length ws = ap (λ (c : List (Option WorkerView)). sum_by stands_for c)
    places ∙ new_stand_for b 0 ws new in
    ap given_in is ∙ present_stand_for after ∙ kept ∙ start ∙ many ∙ sym sizes

-- each call but a resigning is its worker's alone
pub is_own : (call : ScriptCall) → ((heir : ℕ) → call ≡ Resign heir → ⊥) → IsOwnCall call
is_own (Has k) isnt = tt
is_own (Insert k) isnt = tt
is_own (Delete k) isnt = tt
is_own Finish isnt = tt
is_own Pin isnt = tt
is_own Unpin isnt = tt
is_own Advance isnt = tt
is_own Collect isnt = tt
is_own (Resign heir) isnt = absurd (isnt heir refl)

-- a call that was answered is a line
pub made_line : (b : TreeView) (tries n : ℕ) (call : ScriptCall) (crew : List (Option WorkerView))
    (o z : Option WorkerView) (r : Option Answer) → IsOwnCall call → worker_at crew n ≡ o
    → IfSome r (HasDoneAt b tries call o z) → IfSome r (λ a. PlaysLine b tries n call crew a (slice_set crew n z))
made_line b tries n call crew o z None own at did = tt
made_line b tries n call crew o z (Some a) own at did = own_line_at b tries n call crew z a own (rw at did)
