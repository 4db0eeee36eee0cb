-- Members that add tasks and take them.
use Rattle.std.proofs.Common.{◌≡◌, ℕ, ◌+◌, ◌<◌, inl, inr, true, false, true≢false, ap, arith}
use Rattle.std.specs.Prelude.{Option, Some, None, Result, Ok, Err, is_ok}
use Rattle.nm_model.specs.declared.event.Op.TheVariants.{Insert}
use Rattle.nm_edge.specs.declared.placement.Fit.{Fit}
use Rattle.nm_steps.specs.declared.view.View.{View}
use Rattle.nm_steps.specs.Steps.{TreeView}
use Rattle.nm_walks.specs.WonCounts.{won_flags, won_links}
use Rattle.nm_calls.specs.Won.{HasWon}
use Rattle.nm_tree.specs.Workers.{WorkerView}
use Rattle.nm_calls.specs.declared.fault.CallFault.{CallFault}
use Rattle.nm_calls.specs.declared.fault.CallFault.TheVariants as fault
use Rattle.nm_set.specs.declared.managed.Options.{Options}
use Rattle.nm_set.specs.Seats.{IsNewMember, MemberView}
use Rattle.nm_set.specs.Popping.{SaysManagedPop}
use Rattle.nm_set.specs.Managed.{GoesOn, SaysManaged}
use Rattle.nm_set.proofs.Managing.{follows_then, is_no_fault}
use Rattle.nm_callers.specs.Queues.{HasWorked}

-- one call more
works_on : (w x z : WorkerView) (n t m d most : ℕ) → HasWorked w x n t → GoesOn most x z
    → HasWon x.pass.view.log z.pass.view.log m d → z.pending ≡ None → HasWorked w z (n + m) (t + d)
works_on w x z n t m d most done on won settled =
    let both = follows_then w.pass x.pass z.pass (record { same = done.same; past = done.past })
    (record { same = on.same; past = on.past }) in
    let links = done.won.links in
    let flags = done.won.flags in
    let more = won.links in
    let less = won.flags in
    record {
      same = both.same;
      past = both.past;
      won = record { links = omega (arith, links, more); flags = omega (arith, flags, less) };
      rest = record { free = on.held; settled = settled };
    }

pub adds_one : (b : TreeView) (h : Options) (k : ℕ) (w x z : WorkerView) (n : ℕ) → HasWorked w x n 0
    → SaysManaged Insert b h k x z (Ok true) → HasWorked w z (n + 1) 0
adds_one b h k w x z n done (inl held) = is_no_fault true fault.Pinned held.1
adds_one b h k w x z n done (inr did) = works_on w x z n 0 1 0 _ done did.1.answers.on did.1.answers.won
    did.1.answers.left

pub adds_none : (b : TreeView) (h : Options) (k : ℕ) (w x z : WorkerView) (n : ℕ) → HasWorked w x n 0
    → SaysManaged Insert b h k x z (Ok false) → HasWorked w z n 0
adds_none b h k w x z n done (inl held) = is_no_fault false fault.Pinned held.1
adds_none b h k w x z n done (inr did) =
    let more = works_on w x z n 0 0 0 _ done did.1.answers.on did.1.answers.won did.1.answers.left in
    let links = more.won.links in
    record {
      same = more.same;
      past = more.past;
      won =
          record { links = omega (arith, links); flags = more.won.flags };
      rest = more.rest;
    }

told_held : {B : Type 0} (found : Option ℕ) → ◌≡◌ {A = Result (Option ℕ) CallFault} (Ok found) (Err fault.Pinned) → B
told_held found is = absurd (true≢false (ap (λ (r : Result (Option ℕ) CallFault). is_ok r) is))

pub takes_one : (b : TreeView) (h : Options) (k : ℕ) (w x z : WorkerView) (n : ℕ) → HasWorked w x 0 n
    → SaysManagedPop ◌<◌ b h x z (Ok (Some k)) → HasWorked w z 0 (n + 1)
takes_one b h k w x z n done (inl held) = told_held (Some k) held.1
takes_one b h k w x z n done (inr did) = works_on w x z 0 n 0 1 _ done did.1.on did.1.won did.1.left

pub takes_none : (b : TreeView) (h : Options) (w x z : WorkerView) (n : ℕ) → HasWorked w x 0 n
    → SaysManagedPop ◌<◌ b h x z (Ok None) → HasWorked w z 0 n
takes_none b h w x z n done (inl held) = told_held None held.1
takes_none b h w x z n done (inr did) =
    let more = works_on w x z 0 n 0 0 _ done did.1.on did.1.won did.1.left in
    let flags = more.won.flags in
    record {
      same = more.same;
      past = more.past;
      won =
          record { links = more.won.links; flags = omega (arith, flags) };
      rest = more.rest;
    }

-- ---- members of a new set

-- what it has won is what it has added and taken
pub new_won : (b : TreeView) (f : Fit) (k : ℕ) (m : MemberView) (z : WorkerView) (n t : ℕ) → IsNewMember b f k m
    → HasWorked m.worker z n t → (won_links z.pass.view.log ≡ n) × (won_flags z.pass.view.log ≡ t)
new_won b f k m z n t is did =
    let links : won_links m.worker.pass.view.log ≡ 0 = ap (λ (v : View). won_links v.log) is.new.1 in
    let flags : won_flags m.worker.pass.view.log ≡ 0 = ap (λ (v : View). won_flags v.log) is.new.1 in
    let more = did.won.links in
    let less = did.won.flags in
    (omega (arith, links, more), omega (arith, flags, less))
