use Rattle.std.proofs.Common.{◌++◌, ◌∙◌, All, List, ap, subst, sym}
use Rattle.nm_edge.specs.Layouts.{Layout}
use Rattle.nm_steps.specs.Steps.{IsOf}
use Rattle.nm_tree.specs.Workers.{WorkerView}
use Rattle.nm_serial.specs.Endings.{IsEnding}
use Rattle.nm_serial.proofs.CrewLemmas.{present_are_of, whole_at_end}
use Rattle.nm_serial.proofs.WorkerLemmas.{new_are_of}
use Rattle.nm_serial.proofs.one_thread.text_of.Goals as goal

pub crew_of-requires : goal.crew_of-requires
crew_of-requires c = record {
  own = λ k d lt. new_are_of c.in_ok-tree.tree 0 c.in_ok-tree.workers.items
      c.in_ok-tree.ensures.new.new k d lt;
}

pub put_end-requires-clause-own : goal.put_end-requires-clause-own
put_end-requires-clause-own c =
    subst (λ (ws : List WorkerView). All (λ (w : WorkerView). IsOf c.in_ok-tree.tree w.pass) ws)
    (sym c.in-Ok-left_of.ensures) (present_are_of c.in_ok-tree.tree c.play.new.crew.items c.in_ok-answers.ensures.own)

pub put_end-requires-clause-whole : goal.put_end-requires-clause-whole
put_end-requires-clause-whole c =
    let sizes = ap (λ (l : Layout). l.workers) c.in_ok-tree.ensures.new.layout in
    whole_at_end c.in_ok-tree.tree c.in_ok-tree.workers.items c.in-Ok-left_of.workers.items c.in-Ok.crew.items
    c.play.new.crew.items _ c.in_ok-tree.ensures.new.new c.in_ok-tree.ensures.new.count sizes
    c.in-Ok.ensures.places c.in_ok-answers.ensures.whole c.in-Ok-left_of.ensures

pub returns-clause-text : goal.returns-clause-text
returns-clause-text c =
    let told = c.in_ok-put_end.ensures.text in
    let rows = rw (c.as_slice-2.ensures.value, c.new-out.ensures.items) at c.in-Ok-put_lines.ensures in
    record {
      tree = c.in_ok-tree.tree;
      workers = c.in_ok-tree.workers.items;
      opened = record {
        sizes = c.in_ok-tree.ensures.new.layout;
        new = c.in_ok-tree.ensures.new.new;
        all =
            c.in_ok-tree.ensures.new.count;
        fit = c.in_ok-tree.ensures.new.fits;
      };
      answers = c.in_ok-answers.answers.items;
      crew = c.play.new.crew.items;
      played = rw (c.as_slice.ensures.value, c.in-Ok.ensures.places) at c.in_ok-answers.ensures.did;
      ending = told.0;
      ends = subst (λ (ws : List WorkerView). IsEnding c.in_ok-tree.tree ws told.0) c.in-Ok-left_of.ensures told.1;
      text_is = told.2 ∙ ap (λ (l : List _). l ++ told.0) rows;
    }
