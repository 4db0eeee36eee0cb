-- What a delete of a tree leaves of its worker, by what it leaves of the pass.
use Rattle.std.proofs.Common.{◌≡◌, inl, inr, ℕ, ◌<◌, Bool, true, false, List, refl}
use Rattle.std.specs.Prelude.{Option, Some, None, Result, Ok, Err}
use Rattle.nm_edge.specs.Layouts.{IsLayout, Layout}
use Rattle.nm_model.specs.Walks.{Entry}
use Rattle.nm_steps.specs.Steps.{HasSeen, IsOf, TreeView}
use Rattle.nm_epoch.specs.Resting.{IsResting}
use Rattle.nm_walks.specs.Bounds.{cut_bound}
use Rattle.nm_calls.specs.declared.deleting.Deletion.{Deletion}
use Rattle.nm_calls.specs.declared.deleting.Deletion.TheVariants as deletion
use Rattle.nm_calls.specs.declared.deleting.Unfinished.{Unfinished}
use Rattle.nm_calls.specs.declared.fault.CallFault.{CallFault}
use Rattle.nm_calls.specs.declared.fault.CallFault.TheVariants as fault
use Rattle.nm_calls.specs.Deletes.{AfterDelete, DeleteDid, IfTaken, LacksRoomOr, LosesAfterFlag}
use Rattle.nm_tree.specs.Answers.{LacksRoom, IfTaken as IfTold}
use Rattle.nm_tree.specs.Calls.{LeavesDelete}
use Rattle.nm_tree.specs.Workers.{KeepsOtherQueues, TakeRoom, WorkerView}
use Rattle.nm_tree.proofs.Interfered.{delete_alone, delete_finished, delete_interfered, delete_lost}

-- `answer_of`, `pending_of`: the answer to the caller, and the delete that is pending
abbrev pub answer_of : Result Deletion CallFault → Result Bool CallFault
answer_of (Ok (deletion.Done answer)) = Ok answer
answer_of (Ok (deletion.Pending leaf)) = Err fault.Unfinished
answer_of (Err e) = Err e

abbrev pub pending_of : ℕ → Result Deletion CallFault → Option Unfinished
pending_of k (Ok (deletion.Pending leaf)) = Some (record { key = k; leaf = leaf })
pending_of k _ = None

-- what a call leaves of the queues of its worker, and of its place
pub record KeepsRest (w z : WorkerView) : Type 0 where
  pub queues : KeepsOtherQueues w.pass.view.number w.queues z.queues
  pub blocks : TakeRoom w.queues z.queues
  pub held : z.held ≡ None
  pub fit : z.fit ≡ w.fit

module _ (b : TreeView) (w z : WorkerView) (k tries spare : ℕ) (own : IsOf b w.pass) (seen : HasSeen w.pass.view)
    (later : HasSeen z.pass.view) (fits : IsLayout w.pass.view.layout) (rests : IsResting w.pass)
    (none : w.pending ≡ None) (rest : KeepsRest w z) (little : spare < cut_bound → LacksRoom z) where
  pub delete_leaves : (d : Result Deletion CallFault) → z.pending ≡ pending_of k d
      → AfterDelete b.layout tries k w.pass z.pass d
      → LacksRoomOr (LosesAfterFlag b.layout tries k w.pass.view.log z.pass.view.log) spare d
      → LeavesDelete b.layout tries k w z (answer_of d)
  delete_leaves (Ok (deletion.Done answer)) is a why = record {
    says = record {
      same = a.same;
      past = a.past;
      told = (none, is);
      moment = a.moment;
      won = a.won;
      steps = a.steps;
      queues = rest.queues;
      blocks = rest.blocks;
      held = rest.held;
      fit = rest.fit;
    };
    did = ((none, is), a.did);
    lacks = tt;
    interfered = λ busy. absurd (let no = busy in cc);
    lost = λ unfinished. absurd (let no = unfinished in cc);
    alone = λ runs. tt;
  }
  delete_leaves (Ok (deletion.Pending n)) is a why = record {
    says = record {
      same = a.same;
      past = a.past;
      told = (none, n, is);
      moment = tt;
      won = a.won;
      steps = a.steps;
      queues = rest.queues;
      blocks = rest.blocks;
      held = rest.held;
      fit = rest.fit;
    };
    did = (none, n, is, a.did);
    lacks = (elim why [
      | inl less ↦ inl (little less)
      | inr lost ↦ inr (n, lost)
    ]);
    interfered = λ busy. absurd (let no = busy in cc);
    lost = λ unfinished. (elim why [
      | inl less ↦ inl (little less)
      | inr lost ↦ inr (delete_lost b b w.pass w.pass z.pass k tries refl refl seen later fits a.same a.past own n
          a.stands lost)
    ]);
    alone = λ runs. (elim why [
      | inl less ↦ inr (little less)
      | inr lost ↦ inl (delete_finished b b w.pass w.pass z.pass k tries refl refl seen later fits a.same a.past own n
          runs rests lost)
    ]);
  }
  delete_leaves (Err fault.Busy) is a why = record {
    says = record {
      same = a.same;
      past = a.past;
      told = (none, is);
      moment = tt;
      won = a.won;
      steps = a.steps;
      queues = rest.queues;
      blocks = rest.blocks;
      held = rest.held;
      fit = rest.fit;
    };
    did = ((none, is), a.did);
    lacks = tt;
    interfered = λ busy. delete_interfered b b w.pass w.pass z.pass k tries refl refl seen later fits a.same a.past own
        a.did;
    lost = λ unfinished. absurd (let no = unfinished in cc);
    alone = λ runs. delete_alone b b w.pass w.pass z.pass k tries refl refl seen later fits a.same a.past own runs rests
        a.did;
  }
  delete_leaves (Err fault.NoMemory) is a why = record {
    says = record {
      same = a.same;
      past = a.past;
      told = ((none, is), little why);
      moment = tt;
      won = a.won;
      steps = a.steps;
      queues = rest.queues;
      blocks = rest.blocks;
      held = rest.held;
      fit = rest.fit;
    };
    did = ((none, is), a.did);
    lacks = little why;
    interfered = λ busy. absurd (let no = busy in cc);
    lost = λ unfinished. absurd (let no = unfinished in cc);
    alone = λ runs. little why;
  }
  delete_leaves (Err fault.Full) is a why = absurd a.did.3
  delete_leaves (Err fault.Unfinished) is a why = absurd a.did.3
  delete_leaves (Err fault.Pending) is a why = absurd a.did.3
  delete_leaves (Err fault.Pinned) is a why = absurd a.did.3

-- what was taken, by the answer to the caller
pub taken_so : (L : Layout) (tries k : ℕ) (old new : List Entry) (P : Type 0) (d : Result Deletion CallFault)
    → DeleteDid L tries k old new d → IfTaken d P → IfTold (answer_of d) P
taken_so L tries k old new P (Ok (deletion.Done true)) did h = h
taken_so L tries k old new P (Ok (deletion.Done false)) did h = tt
taken_so L tries k old new P (Ok (deletion.Pending n)) did h = h
taken_so L tries k old new P (Err fault.Busy) did h = tt
taken_so L tries k old new P (Err fault.NoMemory) did h = tt
taken_so L tries k old new P (Err fault.Full) did h = absurd did.3
taken_so L tries k old new P (Err fault.Unfinished) did h = absurd did.3
taken_so L tries k old new P (Err fault.Pending) did h = absurd did.3
taken_so L tries k old new P (Err fault.Pinned) did h = absurd did.3
