-- Lines that are played one after the other.
use Rattle.std.proofs.Common.{◌≡◌, ◌≢◌, ◌+◌, ℕ, List, [], ◌∷◌, refl, ap}
use Rattle.std.proofs.lemmas.Bool.{ne_eqb, eq-eqb}
use Rattle.nm_serial.specs.declared.answer.Answer.{Answer}
use Rattle.nm_files.specs.declared.read.entry.ScriptCall.{ScriptCall}
use Rattle.nm_steps.specs.Steps.{TreeView}
use Rattle.nm_tree.specs.Workers.{WorkerView}
use Rattle.nm_serial.specs.declared.own_lines.Stop.{Stop}
use Rattle.nm_serial.specs.declared.own_lines.Stop.TheVariants as stop
use Rattle.nm_serial.specs.Makes.{HasMade, HasStopped, PlaysOwn, StopsOwn, own_lines}

-- one more line of the worker
pub own_line : (lets : ℕ → ℕ → Type 0) (b : TreeView) (tries n line : ℕ) (all rest : List (ℕ × ScriptCall))
    (e : ℕ × ScriptCall) (a : Answer) (more : List Answer) (w mid z : WorkerView) → all ≡ e ∷ rest → e.0 ≡ n
    → lets n line → HasMade b tries e.1 w mid a
    → PlaysOwn lets b tries n (line + 1) rest more mid z → PlaysOwn lets b tries n line all (a ∷ more) w z
own_line lets b tries n line all rest e a more w mid z cut is let_on made next = rw (cut, eq-eqb e.0 n is)
    (let_on, (mid, made, next))

-- a line of another worker
pub other_line : (lets : ℕ → ℕ → Type 0) (b : TreeView) (tries n line : ℕ) (all rest : List (ℕ × ScriptCall))
    (e : ℕ × ScriptCall) (more : List Answer) (w z : WorkerView) → all ≡ e ∷ rest → e.0 ≢ n
    → PlaysOwn lets b tries n (line + 1) rest more w z → PlaysOwn lets b tries n line all more w z
other_line lets b tries n line all rest e more w z cut isnt next = rw (cut, ne_eqb e.0 n isnt) next

-- ---- a worker that is stopped

-- it was stopped behind one more line of its own
pub stops_behind_own : (lets stops : ℕ → ℕ → Type 0) (b : TreeView) (tries n line : ℕ)
    (all rest : List (ℕ × ScriptCall)) (e : ℕ × ScriptCall) (a : Answer) (w mid z : WorkerView) (s : Stop)
    → all ≡ e ∷ rest → e.0 ≡ n → lets n line → HasMade b tries e.1 w mid a
    → StopsOwn lets stops b tries n (line + 1) rest mid z s → StopsOwn lets stops b tries n line all w z s
stops_behind_own lets stops b tries n line all rest e a w mid z stop.NoMemory cut is let_on made next = tt
stops_behind_own lets stops b tries n line all rest e a w mid z (stop.Gate l) cut is let_on made next =
    rw (cut, eq-eqb e.0 n is) (record {
      before = (line, e.1) ∷ next.before;
      call = next.call;
      after = next.after;
      split = ap (λ (ls : List (ℕ × ScriptCall)). (line, e.1) ∷ ls) next.split;
      answers = a ∷ next.answers;
      played = (let_on, (mid, made, next.played));
      stopped = next.stopped;
    })

-- behind a line of another
pub stops_behind_other : (lets stops : ℕ → ℕ → Type 0) (b : TreeView) (tries n line : ℕ)
    (all rest : List (ℕ × ScriptCall)) (e : ℕ × ScriptCall) (w z : WorkerView) (s : Stop) → all ≡ e ∷ rest → e.0 ≢ n
    → StopsOwn lets stops b tries n (line + 1) rest w z s → StopsOwn lets stops b tries n line all w z s
stops_behind_other lets stops b tries n line all rest e w z stop.NoMemory cut isnt next = tt
stops_behind_other lets stops b tries n line all rest e w z (stop.Gate l) cut isnt next = rw (cut, ne_eqb e.0 n isnt)
    next

-- at this line
pub stops_here : (lets stops : ℕ → ℕ → Type 0) (b : TreeView) (tries n line : ℕ) (all rest : List (ℕ × ScriptCall))
    (e : ℕ × ScriptCall) (w z : WorkerView) (s : Stop) → all ≡ e ∷ rest → e.0 ≡ n
    → HasStopped (stops n line) line w z s → StopsOwn lets stops b tries n line all w z s
stops_here lets stops b tries n line all rest e w z stop.NoMemory cut is stopped = tt
stops_here lets stops b tries n line all rest e w z (stop.Gate l) cut is stopped =
    rw (cut, eq-eqb e.0 n is) (record {
      before = [];
      call = e.1;
      after = own_lines n (line + 1) rest;
      split = rw stopped.0 refl;
      answers = [];
      played = stopped.2;
      stopped = rw stopped.0 stopped.1;
    })
