use Rattle.std.proofs.Common.{◌∙◌, All, List, ap, subst, sym}
use Rattle.nm_edge.specs.Layouts.{Layout}
use Rattle.nm_steps.specs.Steps.{IsOf}
use Rattle.nm_tree.specs.Closing.{given_in}
use Rattle.nm_tree.specs.Workers.{WorkerView}
use Rattle.nm_serial.proofs.ThreadLemmas.{ended_are_of, ended_stand_for_all}
use Rattle.nm_serial.proofs.WorkerLemmas.{new_are_of}
use Rattle.nm_serial.proofs.many_threads.text_of.Goals as goal

pub play_apart-requires-clause-own : goal.play_apart-requires-clause-own
play_apart-requires-clause-own g c κs within = λ k d lt. new_are_of c.in_ok-tree.tree 0 c.in_ok-tree.workers.items
    c.in_ok-tree.ensures.new.new k d lt

pub put_end-requires-clause-own : goal.put_end-requires-clause-own
put_end-requires-clause-own g c =
    subst (λ (ws : List WorkerView). All (λ (w : WorkerView). IsOf c.in_ok-tree.tree w.pass) ws)
    (sym c.in-Ok-workers_of.ensures) (ended_are_of _ _ c.in_ok-tree.tree _ _ c.in_ok-tree.workers.items
    c.in_ok-played.played.items c.in_ok-played.ensures.played)

pub put_end-requires-clause-whole : goal.put_end-requires-clause-whole
put_end-requires-clause-whole g c =
    let sizes = ap (λ (l : Layout). l.workers) c.in_ok-tree.ensures.new.layout in
    ap given_in c.in-Ok-workers_of.ensures ∙ ended_stand_for_all _ _ c.in_ok-tree.tree _ _ c.in_ok-tree.workers.items
    c.in_ok-played.played.items c.in_ok-played.ensures.played _ c.in_ok-tree.ensures.new.new
    c.in_ok-tree.ensures.new.count sizes
