-- The lists of a state keep their lengths.
use Rattle.std.proofs.Common.{◌≡◌, ℕ, ◌+◌, ◌-◌, ◌≤◌, true, length, refl, ◌∙◌, arith, length-set}
use Rattle.std.proofs.lemmas.Bool.{cond_both}
use Rattle.std.proofs.lemmas.List.{length-replicate}
use Rattle.std.proofs.lemmas.List.FromFn.{length-map-range_with_len}
use Rattle.nm_edge.specs.Layouts.{Layout}
use Rattle.nm_edge.specs.Edges.{Edge, is_to}
use Rattle.nm_edge.specs.declared.edge.Side.{Side}
use Rattle.nm_model.specs.declared.event.Event.{Event}
use Rattle.nm_model.specs.declared.event.Event.TheVariants.{Sight, SightFor, Announce, Leave, LeaveWith, Scan, Advance, Claim, Give, Look, Fill, Link, Flag, Tag, Splice, Swap, Join}
use Rattle.nm_model.specs.Maps.{is_number}
use Rattle.nm_model.specs.Memory.{Memory, edge, put_edge, blank}
use Rattle.nm_model.specs.Knowledge.{Knowledge, newcomer}
use Rattle.nm_model.specs.Step.{exchanged, write}
use Rattle.nm_model.specs.Runs.{State, of, start, applied}

-- the words of m have the lengths that those of n have
pub record AsLong (m n : Memory) : Type 0 where
  pub announcements : length m.announcements ≡ length n.announcements
  pub nodes : length m.nodes ≡ length n.nodes
  pub pool : length m.pool ≡ length n.pool

as_itself : (m : Memory) → AsLong m m
as_itself m = record { announcements = refl; nodes = refl; pool = refl }

exchange_as_long : (m : Memory) (p : ℕ) (side : Side) (slot : ℕ) (e : Edge) → AsLong (exchanged m p side slot e) m
exchange_as_long m p side slot e = cond_both (is_to (edge m p side) slot) (put_edge m p side e) m (λ x. AsLong x m)
    (λ _. record { announcements = refl; nodes = length-set _ p _; pool = refl }) (λ _. as_itself m)

pub written_as_long : (m : Memory) (k : Knowledge) (w : ℕ) (e : Event) → AsLong (write m k w e) m
unfolding write
written_as_long m k w Sight = as_itself m
written_as_long m k w (SightFor op key) = as_itself m
written_as_long m k w Announce = record { announcements = length-set _ w _; nodes = refl; pool = refl }
written_as_long m k w Leave = record { announcements = length-set _ w _; nodes = refl; pool = refl }
written_as_long m k w (LeaveWith answer) = record { announcements = length-set _ w _; nodes = refl; pool = refl }
written_as_long m k w (Scan u) = as_itself m
written_as_long m k w Advance = cond_both (is_number k.brief.seen m.epoch) (record m { epoch = m.epoch + 1 }) m
    (λ x. AsLong x m) (λ _. record { announcements = refl; nodes = refl; pool = refl }) (λ _. as_itself m)
written_as_long m k w (Claim s) = record { announcements = refl; nodes = refl; pool = length-set _ s _ }
written_as_long m k w (Give s) = record { announcements = refl; nodes = refl; pool = length-set _ s _ }
written_as_long m k w (Look s f) = as_itself m
written_as_long m k w (Fill s f v) = record { announcements = refl; nodes = length-set _ s _; pool = refl }
written_as_long m k w (Link p side leaf new) = exchange_as_long m p side leaf _
written_as_long m k w (Flag p side leaf) = exchange_as_long m p side leaf _
written_as_long m k w (Tag p side) = record { announcements = refl; nodes = length-set _ p _; pool = refl }
written_as_long m k w (Splice a side x p keep) = exchange_as_long m a side x _
written_as_long m k w (Swap p side leaf new) = exchange_as_long m p side leaf _
written_as_long m k w (Join v) = as_itself m

-- there are as many workers as the layout says, each with its announcement
pub record Staffed (s : State) : Type 0 where
  pub workers : length s.workers ≡ s.layout.workers
  pub announcements : length s.memory.announcements ≡ s.layout.workers

pub staffed_step : (s : State) (w : ℕ) (e : Event) → Staffed s → Staffed (applied s w e)
unfolding applied
staffed_step s w (Join v) staffed = record {
  workers = length-set _ v _ ∙ (length-set s.workers w _ ∙ staffed.workers);
  announcements = (written_as_long s.memory (of s w) w (Join v)).announcements ∙ staffed.announcements;
}
staffed_step s w e staffed = record {
  workers = length-set s.workers w _ ∙ staffed.workers;
  announcements = (written_as_long s.memory (of s w) w e).announcements ∙ staffed.announcements;
}

pub staffed_start : (L : Layout) → Staffed (start L)
staffed_start L = record {
  workers = length-map-range_with_len (newcomer L) 0 L.workers;
  announcements = length-replicate L.workers _;
}

-- there is room for each slot, slot 0 included
pub record Roomy (s : State) : Type 0 where
  pub nodes : length s.memory.nodes ≡ s.layout.nodes + 1
  pub pool : length s.memory.pool ≡ s.layout.nodes + 1

pub roomy_step : (s : State) (w : ℕ) (e : Event) → Roomy s → Roomy (applied s w e)
unfolding applied
roomy_step s w e roomy =
    let long = written_as_long s.memory (of s w) w e in
    record { nodes = long.nodes ∙ roomy.nodes; pool = long.pool ∙ roomy.pool }

pub roomy_start : (L : Layout) → 5 ≤ L.nodes → Roomy (start L)
roomy_start L enough = record {
  nodes = let n = length-replicate (L.nodes - 5) blank in omega arith;
  pool = let n = length-replicate (L.nodes - 5) true in omega arith;
}
