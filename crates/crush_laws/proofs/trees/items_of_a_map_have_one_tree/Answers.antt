use Rattle.crush_laws.proofs.Unfolding.{has_tree, has_tree_at, one_tree_of_an_item}
use Rattle.crush_laws.proofs.trees.items_of_a_map_have_one_tree.Goals as goal

pub returns-clause-item : goal.returns-clause-item
returns-clause-item c = λ m item is has.
    has_tree m (record { sound = λ i. c.buckets_are_sound.ensures m i is; once = c.numbers_and_names_are_once.ensures.bucket_ids m is }) item has

pub returns-clause-bucket : goal.returns-clause-bucket
returns-clause-bucket c = λ m bucket is below.
    has_tree_at m (record { sound = λ i. c.buckets_are_sound.ensures m i is; once = c.numbers_and_names_are_once.ensures.bucket_ids m is }) bucket below

pub returns-clause-one : goal.returns-clause-one
returns-clause-one c = λ m a b is first second same.
    one_tree_of_an_item m (record { sound = λ i. c.buckets_are_sound.ensures m i is; once = c.numbers_and_names_are_once.ensures.bucket_ids m is }) a b first second same
