-- Runs that go on from earlier ones.
use Rattle.std.proofs.Common.{List, [], ◌∷◌, ◌++◌, refl, sym, ap, ◌∙◌}
use Rattle.std.proofs.lemmas.List.{append-nil, append_assoc}
use Rattle.nm_model.specs.declared.trace.Turn.{Turn}
use Rattle.nm_steps.specs.declared.view.View.{View}
use Rattle.nm_steps.specs.Rules.{Extends, LagsBehind}

pub goes_on_itself : (run : List Turn) → Extends run run
goes_on_itself run = record { more = []; is = sym (append-nil run) }

pub goes_on_from_nothing : (run : List Turn) → Extends run []
goes_on_from_nothing run = record { more = run; is = refl }

pub goes_on_by : (run earlier : List Turn) (t : Turn) → Extends run earlier → Extends (run ++ t ∷ []) earlier
goes_on_by run earlier t e = record {
  more = e.more ++ t ∷ [];
  is = ap (λ (l : List Turn). l ++ t ∷ []) e.is
      ∙ append_assoc earlier e.more (t ∷ []);
}

pub goes_on_through : (run middle earlier : List Turn) → Extends run middle → Extends middle earlier
    → Extends run earlier
goes_on_through run middle earlier e f = record {
  more = f.more ++ e.more;
  is = e.is
      ∙ (ap (λ (l : List Turn). l ++ e.more) f.is ∙ append_assoc earlier f.more e.more);
}

pub behind_by : (run : List Turn) (t : Turn) (v : View) → LagsBehind run v → LagsBehind (run ++ t ∷ []) v
behind_by run t v b = record { past = goes_on_by run v.past t b.past; heard = goes_on_by run v.heard t b.heard }
