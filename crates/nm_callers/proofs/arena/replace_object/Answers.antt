use Rattle.std.proofs.Common.{inl, inr, ℕ, rules}
use Rattle.std.specs.Prelude.{Ok}
use Rattle.nm_steps.specs.Steps.{TreeView}
use Rattle.nm_puts.specs.Replaced.{HasReplaced}
use Rattle.nm_puts.specs.declared.putting.Condition.TheVariants as condition
use Rattle.nm_puts.specs.declared.putting.PutOutcome.TheVariants as put
use Rattle.nm_tree.specs.Workers.{WorkerView}
use Rattle.nm_set.specs.declared.managed.Options.{Options}
use Rattle.nm_set.specs.MapPuts.{SaysManagedPut}
use Rattle.nm_callers.proofs.arena.replace_object.Goals as goal

-- what a put that replaced a value says of it
replaced : (b : TreeView) (h : Options) (k v old : ℕ) (w z : WorkerView)
    → SaysManagedPut b h condition.IfThere k v w z (Ok (put.Replaced old)) → HasReplaced w.pass z.pass k old v
replaced b h k v old w z (inl pinned) = absurd (let no = pinned.1 in cc)
replaced b h k v old w z (inr (free, did)) = did.answers.map.0

pub returns-in-Ok-Replaced-clause-replaced : goal.returns-in-Ok-Replaced-clause-replaced
returns-in-Ok-Replaced-clause-replaced c = replaced c.args.member.now.tree c.args.options.now c.args.key
    c.args.number c.in-Ok-Replaced.old c.args.member.now.worker c.put.new.self.worker (search rules)
