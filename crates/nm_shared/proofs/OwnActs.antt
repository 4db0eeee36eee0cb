-- Visits with answers have acts in each history: acts of their own, and in the order of the visits.
use Rattle.std.proofs.Common.{◌≡◌, ◌∙◌, ◌⊎◌, ℕ, ◌<◌, ◌≤◌, Bool, List, ◌++◌, length, length-append, inl, inr, sym, ap, subst, arith}
use Rattle.std.proofs.lemmas.Bool.{cases_lt}
use Rattle.nm_edge.specs.Layouts.{Layout}
use Rattle.nm_model.specs.Acts.{Act}
use Rattle.nm_model.specs.declared.event.Op.{Op}
use Rattle.nm_model.specs.declared.trace.Turn.{Turn}
use Rattle.nm_model.specs.Histories.{Called, IsHistory}
use Rattle.nm_steps.specs.Rules.{Extends}
use Rattle.nm_steps.specs.Steps.{PassView, HasSeenAllOf}
use Rattle.nm_steps.proofs.Seeing.{seen_itself, seen_through}
use Rattle.nm_lending.specs.declared.knowing.Visit.{Visit}
use Rattle.nm_lending.specs.Visits.{Leads, Stays, On, IsApart, InOrder}
use Rattle.nm_shared.specs.OwnActs.{WorkerGoesOn, WasAnswered, HasActOf, HaveOwnActs, HaveActsInOrder}

pub longer : (later earlier : List Turn) → Extends later earlier → length earlier ≤ length later
longer later earlier on =
    let is : length later ≡ length (earlier ++ on.more) = ap (λ (ts : List Turn). length ts) on.is in
    omega (arith, is, length-append earlier on.more)

module _ {T : Type 0} (pass : T → PassView) where
  -- what led to a worker was seen by it
  pub led : (x y : T) → Leads (WorkerGoesOn pass) x y → HasSeenAllOf (pass y) (pass x)
  led x _ Stays = seen_itself (pass x)
  led x _ (On y z so_far step) = seen_through (pass x) (pass y) (pass z) (led x y so_far) step.past

  -- the act of a visit's answer: its pin and its moment are in the visit
  record ItsAct (acts : List Act) (b : Visit T) (begun : List Turn) (op : Op) (k : ℕ) (answer : Bool) : Type 0 where
    act : Act
    is : HasActOf acts act op k answer
    worker : act.worker ≡ b.seat
    after : length begun ≤ act.pin
    pinned : act.pin < act.moment
    before : act.moment < length (pass b.left).view.past

  module _ (L : Layout) (turns : List Turn) (acts : List Act) (history : IsHistory L turns acts) where
    its_act : (b : Visit T) (begun : List Turn) (op : Op) (k : ℕ) (answer : Bool)
        → WasAnswered pass L b begun op k answer → Extends turns (pass b.left).view.past
        → ItsAct acts b begun op k answer
    its_act b begun op k answer was on =
        let of = was.stands.each on.more acts (subst (λ (ts : List Turn). IsHistory L ts acts) on.is history) in
        let a : Act = of.0 in
        let called = of.3 in
        let pin : a.pin ≡ was.stands.pin = ap (λ (c : Called). c.pin) called in
        let low = was.stands.begins in
        let high = of.5 in
        record {
          act = a;
          is = record {
            among = of.1;
            op_is = ap (λ (c : Called). c.op) called;
            key_is = ap (λ (c : Called). c.key) called;
            answer_is = of.4;
          };
          worker = of.2 ∙ was.number;
          after = omega (arith, low, pin);
          pinned = omega (arith, high, pin);
          before = of.6;
        }

    module _ (a b : Visit T) (begun_a begun_b : List Turn) (op_a op_b : Op) (k_a k_b : ℕ) (x_a x_b : Bool)
        (was_a : WasAnswered pass L a begun_a op_a k_a x_a) (was_b : WasAnswered pass L b begun_b op_b k_b x_b)
        (on_a : Extends turns (pass a.left).view.past) (on_b : Extends turns (pass b.left).view.past) where
      one : ItsAct acts a begun_a op_a k_a x_a
      one = its_act a begun_a op_a k_a x_a was_a on_a

      two : ItsAct acts b begun_b op_b k_b x_b
      two = its_act b begun_b op_b k_b x_b was_b on_b

      -- the second call began after what the first visit left
      pub acts_in_order : Extends begun_b (pass a.left).view.past → HaveActsInOrder acts op_a op_b k_a k_b x_a x_b
      acts_in_order heard = record {
        one = one.act;
        two = two.act;
        first = one.is;
        second = two.is;
        before =
            let up = longer begun_b (pass a.left).view.past heard in
            let below = one.before in
            let above = two.after in
            let later = two.pinned in
            omega (arith, up, below, above, later);
      }

      module _ (apart : IsApart a b) (order : InOrder (WorkerGoesOn pass) a b)
          (back : InOrder (WorkerGoesOn pass) b a) where
        by : a.seat ≡ b.seat → one.act.pin ≡ two.act.pin → (a.turn < b.turn) ⊎ (b.turn ≤ a.turn)
            → (b.turn < a.turn) ⊎ (a.turn ≤ b.turn) → ⊥
        by seat pin (inl less) c =
            let up = longer (pass b.was).view.past (pass a.left).view.past
            (led a.left b.was (order seat less)).goes_on in
            let heard = longer begun_b (pass b.was).view.past was_b.after in
            let below = one.before in
            let early = one.pinned in
            let above = two.after in
            omega (arith, up, heard, below, early, above, pin)
        by seat pin (inr c) (inl less) =
            let up = longer (pass a.was).view.past (pass b.left).view.past
            (led b.left a.was (back (sym seat) less)).goes_on in
            let heard = longer begun_a (pass a.was).view.past was_a.after in
            let below = two.before in
            let early = two.pinned in
            let above = one.after in
            omega (arith, up, heard, below, early, above, pin)
        by seat pin (inr c) (inr d) = apart seat (omega (arith, c, d))

        differ : a.seat ≡ b.seat → one.act.pin ≡ two.act.pin → ⊥
        differ seat pin = by seat pin (cases_lt a.turn b.turn) (cases_lt b.turn a.turn)

        pub own_acts : HaveOwnActs acts op_a op_b k_a k_b x_a x_b
        own_acts = record {
          one = one.act;
          two = two.act;
          first = one.is;
          second = two.is;
          apart = λ worker pin. differ (sym one.worker ∙ (worker ∙ two.worker)) pin;
        }
