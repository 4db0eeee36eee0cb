use Rattle.std.proofs.Common.{◌≡◌, ◌∙◌, ◌+◌, ℕ, Bool, refl, sym, subst}
use Rattle.std.specs.Prelude.{Result}
use Rattle.nm_model.specs.declared.event.Op.TheVariants.{Insert}
use Rattle.nm_steps.specs.Steps.{TreeView}
use Rattle.nm_calls.specs.declared.fault.CallFault.{CallFault}
use Rattle.nm_set.specs.Rounds.{AnswersIn, Inserts, IsKnown, IsRelieved, with_fullness}
use Rattle.nm_set.proofs.Managing.{inserts_again, inserts_plain}
use Rattle.nm_set.proofs.member.Member.retry_insert.Goals as goal

pub returns-then-not-is_full-clause-says : goal.returns-then-not-is_full-clause-says
returns-then-not-is_full-clause-says g c = λ w known first.
    let b = c.args.self.now.tree in
    let h = c.args.options.now in
    let z = c.retry-told.new.self.worker in
    subst (Inserts b h c.args.key w z) (sym c.plain.ensures)
    (inserts_plain b h c.args.key w z c.retry-told.result (c.if-not-is_full.ensures.no refl)
    (c.retry-told.ensures.says w first))

pub returns-clause-says : goal.returns-clause-says
returns-clause-says g c = λ w known first.
    let b = c.args.self.now.tree in
    let h = c.args.options.now in
    let k = c.args.key in
    let x = c.retry-told.new.self.worker in
    let y = c.relieve-behind.new.self.worker in
    let z = c.ask_with_retries-told.new.self.worker in
    let behind = c.relieve-behind.result in
    let told = c.ask_with_retries-told.result in
    let same : c.retry-told.new.self.tree ≡ b = c.retry-told.ensures.tree in
    let full = subst (λ (r : Result Bool CallFault). AnswersIn b h Insert k (h.rounds + 1) w x r)
    (c.if-not-is_full.ensures.yes refl) (c.retry-told.ensures.says w first) in
    let relieved = subst (λ (d : TreeView). IsRelieved d.layout x y behind) same c.relieve-behind.ensures.did in
    let last = subst (λ (d : TreeView). AnswersIn d h Insert k (h.rounds + 1) y z told)
    (c.relieve-behind.ensures.tree ∙ same) c.ask_with_retries-told.ensures.says in
    let is = subst (λ (n : ℕ). c.with_fullness.result ≡ with_fullness behind n told) c.queue_len.ensures
    c.with_fullness.ensures in
    let tried : IsKnown x = record {
      seen = c.know_run.ensures.seen;
      between = c.know_run.ensures.between;
      fits =
          c.know_run.ensures.fits;
    } in
    subst (Inserts b h k w z) (sym is) (inserts_again b h k w x y z behind told full relieved last known tried)
