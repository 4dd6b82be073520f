use Rattle.std.proofs.Common.{◌+◌}
use Rattle.crush_laws.specs.Walk.{added}
use Rattle.crush_laws.proofs.Walking.{at_number, walk_by_number}
use Rattle.crush_laws.proofs.trees.walks_go_down_the_tree.Goals as goal

pub returns-clause-any : goal.returns-clause-any
returns-clause-any c = λ m bucket x wanted rr tree is at.
    walk_by_number m (record { sound = λ i. c.buckets_are_sound.ensures m i is; once = c.numbers_and_names_are_once.ensures.bucket_ids m is })
    x rr wanted (λ k below. c.walk_on_a_map_goes_on.ensures.step m x (at_number m rr) wanted k is below) c.a_pick_is_an_item.ensures tree at.of_map bucket at.numbered

pub returns-clause-firstn : goal.returns-clause-firstn
returns-clause-firstn c = λ m bucket x wanted r tree is at.
    returns-clause-any c m bucket x wanted (λ b. r) tree is at

pub returns-clause-indep : goal.returns-clause-indep
returns-clause-indep c = λ m bucket x wanted start numrep f tree is at.
    returns-clause-any c m bucket x wanted (λ b. start + added numrep f b) tree is at
