-- Two worked schedules: a walk under a pin for no call, which goes on by edges that were cut off, and
-- what the law says of it; and three inserts in a radix tree.
use Rattle.std.proofs.Common.{◌≡◌, ℕ, List, [], ◌∷◌, ◌++◌, refl, arith, lit≤}
use Rattle.std.specs.Prelude.{true, false, Err, is_ok}
use Rattle.nm_edge.specs.Edges.{Edge, to}
use Rattle.nm_edge.specs.Layouts.{Layout, dense, in_radix}
use Rattle.nm_edge.specs.declared.edge.Side.TheVariants.{Left, Right}
use Rattle.nm_model.specs.declared.event.Op.TheVariants.{Insert, Delete}
use Rattle.nm_model.specs.declared.event.Field.TheVariants.{Key, Edge as EdgeOn, Birth}
use Rattle.nm_model.specs.declared.event.Event.{Event}
use Rattle.nm_model.specs.declared.event.Event.TheVariants.{Sight, SightFor, Announce, LeaveWith, Claim, Look, Fill, Link, Flag, Tag, Splice}
use Rattle.nm_model.specs.declared.reply.Reply.TheVariants.{KeyIs, EdgeIs}
use Rattle.nm_model.specs.Memory.{child, infinity_0}
use Rattle.nm_model.specs.Runs.{refused, applied}
use Rattle.nm_model.specs.Searches.{idle, searched}
use Rattle.nm_model.specs.Step.{refusal, reply, write}
use Rattle.nm_model.specs.Learning.{learn}
use Rattle.nm_model.specs.Walks.{WalkComes, log_of, search_after}
use Rattle.nm_model.specs.Walks.IsPart.{nothing, takes}
use Rattle.nm_model.specs.Walks.Leads.{begins, leads_on}
use Rattle.nm_model.specs.Ordered.{ordered, trace_in, after_in, outcome_in, next_in, refused_in, applied_in}
use Rattle.nm_order.specs.StalePaths.{log_under_pin, WasReachedSince}
use Rattle.nm_order.proofs.KeyTests.{all_keys}
use Rattle.nm_order.proofs.StaleRuns.{any_walk_was_reached}
use Rattle.std.specs.List.{list_all}
use Rattle.nm_model.specs.declared.reply.Refused.TheVariants.{NotOrdered}
use Rattle.nm_model.specs.Reports.{keys}

abbrev L : Layout
L = dense 7 2

-- worker 0 inserts 5: its leaf is slot 7, under the internal node 6
abbrev insert : List (ℕ × Event)
insert =
    (0, Sight) ∷ (0, Announce) ∷ (0, SightFor Insert 5) ∷ (0, Look 2 (EdgeOn Left)) ∷ (0, Look 3 Key)
    ∷ (0, Look 3 (EdgeOn Left)) ∷ (0, Claim 6) ∷ (0, Fill 6 Birth 1) ∷ (0, Claim 7) ∷ (0, Fill 7 Birth 1)
    ∷ (0, Fill 6 Key infinity_0) ∷ (0, Fill 6 (EdgeOn Left) 7) ∷ (0, Fill 6 (EdgeOn Right) 3) ∷ (0, Fill 7 Key 5)
    ∷ (0, Fill 7 (EdgeOn Left) 0) ∷ (0, Fill 7 (EdgeOn Right) 0) ∷ (0, Link 2 Left 3 6)
    ∷ (0, LeaveWith true) ∷ []

-- worker 1 pins for no call, and comes to 6
abbrev pin : List (ℕ × Event)
pin = (1, Sight) ∷ (1, Announce) ∷ (1, Sight) ∷ (1, Look 2 (EdgeOn Left)) ∷ []

-- worker 0 deletes 5, and cuts 6 and 7 off
abbrev delete : List (ℕ × Event)
delete =
    (0, Announce) ∷ (0, SightFor Delete 5) ∷ (0, Look 2 (EdgeOn Left)) ∷ (0, Look 6 Key) ∷ (0, Look 6 (EdgeOn Left))
    ∷ (0, Look 7 Key) ∷ (0, Look 7 (EdgeOn Right)) ∷ (0, Flag 6 Left 7) ∷ (0, Tag 6 Right)
    ∷ (0, Splice 2 Left 6 6 Right) ∷ (0, Sight) ∷ (0, LeaveWith true) ∷ []

-- worker 1 goes on from 6 to 7
abbrev turns : List (ℕ × Event)
turns = insert ++ (pin ++ (delete ++ (1, Look 6 Key) ∷ (1, Look 6 (EdgeOn Left)) ∷ []))

-- nothing leads to them any more
cut_off : child (after_in (ordered L) turns).state.memory 2 Left ≡ 3
unfolding after_in next_in refused_in applied_in searched refusal reply write learn refused applied
cut_off = refl

-- worker 1 has no call
no_call : search_after idle (log_of 1 (trace_in (ordered L) turns)) ≡ idle
unfolding trace_in after_in outcome_in next_in refused_in applied_in searched refusal reply write learn refused applied
no_call = refl

-- and its log has a walk for 4 that came to 7
comes : WalkComes 4 (log_under_pin L turns 1) 7 6 Left
unfolding trace_in after_in outcome_in next_in refused_in applied_in searched refusal reply write learn refused applied
comes = record {
  looks = (Look 2 (EdgeOn Left), EdgeIs (to 6)) ∷ (Look 6 Key, KeyIs infinity_0)
      ∷ (Look 6 (EdgeOn Left), EdgeIs flagged) ∷ [];
  leads = leads_on (begins (to 6) (λ z. absurd (omega (arith, z)))) infinity_0 flagged (λ z. absurd (omega (arith, z)));
  is_part = takes (takes (takes nothing));
}
  where
    flagged : Edge
    flagged = record { slot = 7; flag = true; tag = false }

-- so 7 was reached since that pin, with 4 in its interval
was_reached : WasReachedSince (ordered L) turns 1 4 7
was_reached = any_walk_was_reached L (lit≤ tt) turns (all_keys turns refl) refl 1 4 7 6 Left (omega arith) comes

-- ---- a radix tree: of three inserts the third links over an internal node, and one of a key in that
-- node's range may not

abbrev R : Layout
R = in_radix (dense 15 1)

-- a new internal node with that router over two slots, of which one is a new leaf with that key
abbrev made : ℕ → ℕ → ℕ → ℕ → ℕ → ℕ → List (ℕ × Event)
made new router left right leaf key =
    (0, Claim new) ∷ (0, Fill new Birth 1) ∷ (0, Claim leaf) ∷ (0, Fill leaf Birth 1) ∷ (0, Fill new Key router)
    ∷ (0, Fill new (EdgeOn Left) left) ∷ (0, Fill new (EdgeOn Right) right)
    ∷ (0, Fill leaf Key key) ∷ (0, Fill leaf (EdgeOn Left) 0) ∷ (0, Fill leaf (EdgeOn Right) 0) ∷ []

-- 5: the router between it and the key of slot 3, 2^64 - 3, is 2^63
abbrev five : List (ℕ × Event)
five =
    (0, Sight) ∷ (0, Announce) ∷ (0, SightFor Insert 5) ∷ (0, Look 2 (EdgeOn Left)) ∷ (0, Look 3 Key)
    ∷ (0, Look 3 (EdgeOn Left)) ∷ []
    ++ (made 6 9223372036854775808 7 3 7 5 ++ (0, Link 2 Left 3 6) ∷ (0, LeaveWith true) ∷ [])

-- 6: the router between 5 and 6 is 6, with the range from 4 to 7
abbrev six : List (ℕ × Event)
six =
    (0, Announce) ∷ (0, SightFor Insert 6) ∷ (0, Look 2 (EdgeOn Left)) ∷ (0, Look 6 Key) ∷ (0, Look 6 (EdgeOn Left))
    ∷ (0, Look 7 Key) ∷ (0, Look 7 (EdgeOn Right)) ∷ []
    ++ (made 8 6 7 9 9 6 ++ (0, Link 6 Left 7 8) ∷ (0, LeaveWith true) ∷ [])

-- 12 is not in that range: the router between is 8, with the range from 0 to 15
abbrev twelve : List (ℕ × Event)
twelve =
    (0, Announce) ∷ (0, SightFor Insert 12) ∷ (0, Look 2 (EdgeOn Left)) ∷ (0, Look 6 Key) ∷ (0, Look 6 (EdgeOn Left))
    ∷ (0, Look 8 Key) ∷ []
    ++ (made 10 8 8 11 11 12 ++ (0, Link 6 Left 8 10) ∷ (0, LeaveWith true) ∷ [])

abbrev inserts : List (ℕ × Event)
inserts = five ++ (six ++ twelve)

-- all is allowed
all_allowed : list_all (λ t. is_ok t.outcome) (trace_in (ordered R) inserts) ≡ true
unfolding trace_in after_in outcome_in next_in refused_in applied_in searched refusal reply write learn refused applied
all_allowed = refl

-- the third link is over the internal node 8
is_over : child (after_in (ordered R) inserts).state.memory 10 Left ≡ 8
unfolding after_in next_in refused_in applied_in searched refusal reply write learn refused applied
is_over = refl

-- and these are the keys
keys_are : keys (after_in (ordered R) inserts).state ≡ 5 ∷ 6 ∷ 12 ∷ []
unfolding after_in next_in refused_in applied_in searched refusal reply write learn refused applied
keys_are = refl

-- 7 is in the range of 8, so it may not be put above it
abbrev seven : List (ℕ × Event)
seven =
    (0, Announce) ∷ (0, SightFor Insert 7) ∷ (0, Look 2 (EdgeOn Left)) ∷ (0, Look 6 Key) ∷ (0, Look 6 (EdgeOn Left))
    ∷ (0, Look 8 Key) ∷ []
    ++ made 10 7 8 11 11 7

not_above : outcome_in (after_in (ordered R) (five ++ (six ++ seven))) (0, Link 6 Left 8 10) ≡ Err NotOrdered
unfolding outcome_in after_in next_in refused_in applied_in searched refusal reply write learn refused applied
not_above = refl
