-- What a call leaves of a worker with which it does nothing: since a key is pending, or where there
-- is none to finish.
use Rattle.std.proofs.Common.{◌≡◌, inl, ℕ, List, false, refl, arith}
use Rattle.std.specs.Prelude.{None, IsSome, Ok, Err}
use Rattle.nm_edge.specs.Layouts.{Layout}
use Rattle.nm_model.specs.Walks.{Entry}
use Rattle.nm_steps.proofs.Seeing.{seen_itself, stores_same}
use Rattle.nm_calls.specs.Won.{HasWon}
use Rattle.nm_calls.specs.declared.fault.CallFault.TheVariants as fault
use Rattle.nm_puts.specs.declared.putting.Condition.{Condition}
use Rattle.nm_tree.specs.Workers.{WorkerView}
use Rattle.nm_tree.specs.Calls.{LeavesGet, LeavesHas, LeavesInsert, LeavesDelete, LeavesFinish}
use Rattle.nm_tree.specs.Putting.{LeavesPut}
use Rattle.nm_tree.proofs.QueueLists.{others_stay, room_stays}

nothing_won : (log : List Entry) → HasWon log log 0 0
nothing_won log = record { links = omega arith; flags = omega arith }

module _ (L : Layout) (tries k : ℕ) (w : WorkerView) (there : IsSome w.pending) (free : w.held ≡ None) where
  pub has_pending : LeavesHas L tries k w w (Err fault.Pending)
  has_pending = record {
    says = record {
      same = refl;
      past = seen_itself w.pass;
      told = (there, refl);
      interfered = λ is. absurd (let no = is in cc);
      moment = tt;
      won = nothing_won w.pass.view.log;
      steps = omega arith;
      queues = refl;
      held = free;
      fit = refl;
    };
    did = (there, refl);
    alone = λ alone. there;
  }

  pub get_pending : LeavesGet L tries k w w (Err fault.Pending)
  get_pending = record {
    same = refl;
    past = seen_itself w.pass;
    stores = stores_same w.pass.view.stores w.pass.view.stores refl;
    did = (there, refl);
    interfered = λ is. absurd (let no = is in cc);
    alone = λ alone is. absurd (let no = is in cc);
    moment = tt;
    won = nothing_won w.pass.view.log;
    steps = omega arith;
    queues = refl;
    held = free;
    fit = refl;
  }

  pub insert_pending : LeavesInsert L tries k w w (Err fault.Pending)
  insert_pending = record {
    says = record {
      same = refl;
      past = seen_itself w.pass;
      told = (there, refl);
      moment = tt;
      won = nothing_won w.pass.view.log;
      steps = omega arith;
      queues = others_stay w.pass.view.number w.queues;
      blocks = room_stays w.queues;
      held = free;
      fit = refl;
    };
    did = (there, refl);
    interfered = λ is. absurd (let no = is in cc);
    alone = λ alone. there;
  }

  pub put_pending : (when : Condition) (v : ℕ) → LeavesPut L tries when k v w w (Err fault.Pending)
  put_pending when v = record {
    says = record {
      same = refl;
      past = seen_itself w.pass;
      stores = stores_same w.pass.view.stores w.pass.view.stores refl;
      told = (there, refl);
      map = tt;
      moment = tt;
      won = nothing_won w.pass.view.log;
      steps = omega arith;
      frees = refl;
      queues = others_stay w.pass.view.number w.queues;
      blocks = room_stays w.queues;
      held = free;
      fit = refl;
    };
    did = inl ((there, refl), refl);
    interfered = λ is. absurd (let no = is in cc);
    alone = λ alone. there;
  }

  pub delete_pending : LeavesDelete L tries k w w (Err fault.Pending)
  delete_pending = record {
    says = record {
      same = refl;
      past = seen_itself w.pass;
      told = (there, refl);
      moment = tt;
      won = nothing_won w.pass.view.log;
      steps = omega arith;
      queues = others_stay w.pass.view.number w.queues;
      blocks = room_stays w.queues;
      held = free;
      fit = refl;
    };
    did = (there, refl);
    lacks = tt;
    interfered = λ is. absurd (let no = is in cc);
    lost = λ is. absurd (let no = is in cc);
    alone = λ alone. there;
  }

pub finishes_none : (L : Layout) (tries : ℕ) (w : WorkerView) → w.pending ≡ None → LeavesFinish L tries w w (Ok false)
finishes_none L tries w none' = record {
  says = record {
    same = refl;
    past = seen_itself w.pass;
    told = (none', refl);
    moment = tt;
    won = nothing_won w.pass.view.log;
    steps = omega arith;
    queues = others_stay w.pass.view.number w.queues;
    blocks = room_stays w.queues;
    held = refl;
    fit = refl;
  };
  did = (none', refl);
  lacks = tt;
  lost = λ is. absurd (let no = is in cc);
  alone = λ alone. tt;
}
