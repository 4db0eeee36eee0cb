-- What visits to the workers of one tree say of its histories. T is what is known of what sits on a
-- seat, and `pass` is the pass of its worker.
use Rattle.std.specs.Prelude.{◌≡◌, ◌<◌, ℕ, Bool, List}
use Rattle.nm_edge.specs.Layouts.{Layout}
use Rattle.nm_model.specs.Acts.{Act, IsAmong}
use Rattle.nm_model.specs.declared.event.Op.{Op}
use Rattle.nm_model.specs.declared.trace.Turn.{Turn}
use Rattle.nm_model.specs.Histories.{AnswerStands}
use Rattle.nm_steps.specs.Rules.{Extends}
use Rattle.nm_steps.specs.Steps.{PassView, IsSamePass, HasSeenAllOf}
use Rattle.nm_lending.specs.declared.knowing.Visit.{Visit}

module _ {T : Type 0} (pass : T → PassView) where
  -- the worker has gone on: its pass is the same, and has seen all that it had seen
  pub record WorkerGoesOn (x y : T) : Type 0 where
    pub same : IsSamePass (pass x) (pass y)
    pub past : HasSeenAllOf (pass y) (pass x)

  -- one call of this visit, to the worker of its seat in a tree of that layout, had this answer. It
  -- began after the turns `begun`, which extend what the worker had seen before the visit
  pub record WasAnswered (L : Layout) (b : Visit T) (begun : List Turn) (op : Op) (k : ℕ) (answer : Bool) : Type 0 where
    pub number : (pass b.left).view.number ≡ b.seat
    pub after : Extends begun (pass b.was).view.past
    pub stands : AnswerStands L begun (pass b.left).view.past (pass b.left).view.number op k answer

-- this act is among these, and is of that operation, for that key, with that answer
pub record HasActOf (acts : List Act) (a : Act) (op : Op) (k : ℕ) (answer : Bool) : Type 0 where
  pub among : IsAmong acts a
  pub op_is : a.op ≡ op
  pub key_is : a.key ≡ k
  pub answer_is : a.answer ≡ answer

-- two answers have acts of their own among these: they are those of two different calls
pub record HaveOwnActs (acts : List Act) (op_a op_b : Op) (k_a k_b : ℕ) (x_a x_b : Bool) : Type 0 where
  pub one : Act
  pub two : Act
  pub first : HasActOf acts one op_a k_a x_a
  pub second : HasActOf acts two op_b k_b x_b
  pub apart : one.worker ≡ two.worker → one.pin ≡ two.pin → ⊥

-- two answers have acts among these, and the moment (linearization point) of the first one is before
-- that of the second one
pub record HaveActsInOrder (acts : List Act) (op_a op_b : Op) (k_a k_b : ℕ) (x_a x_b : Bool) : Type 0 where
  pub one : Act
  pub two : Act
  pub first : HasActOf acts one op_a k_a x_a
  pub second : HasActOf acts two op_b k_b x_b
  pub before : one.moment < two.moment
