-- A walk down the tree of a map: the descent inside `crush_choose_firstn` and `crush_choose_indep`
-- of Ceph's `mapper.c`.
--
-- `reach` of `crush_choose` walks from number to number and counts its picks. Here a walk is a
-- recursion on the tree, which ends since the tree does.
use Rattle.std.specs.Prelude.{ℕ, ◌==◌, ◌+◌, ◌*◌, ◌%◌, ◌&&◌, length, if◌then◌else◌}
use Rattle.std.specs.Ordering.{int_eq}
use Rattle.crush_map.specs.crush_types.specs.declared.ItemId.{ItemId}
use Rattle.crush_map.specs.crush_types.specs.Kinds.{is_uniform}
use Rattle.crush_bucket.specs.Bucket.{BucketView}
use Rattle.crush_bucket.specs.Pick.{pick}
use Rattle.crush_choose.specs.declared.walk.WalkEnd.{WalkEnd}
use Rattle.crush_choose.specs.declared.walk.WalkEnd.TheVariants.{Empty, Wrong, Found}
use Rattle.crush_laws.specs.MapTree.{Tree, device, bucket, Branches, no_branches, branch, id_of, type_of, items_of}

unfoldable mutual
  -- where a walk ends for an input x, if items of the type `wanted` are looked for; rr is the
  -- attempt at each bucket. From a device no walk goes on, and a bucket without items is empty.
  -- Another bucket picks an item, and the walk goes into that item's branch
  pub walk : ℕ → (BucketView → ℕ) → ℕ → Tree → WalkEnd
  walk x rr wanted (device id) = Wrong
  walk x rr wanted (bucket id of_type kind below) =
      let b : BucketView = record { id = id; kind = kind; items = items_of below } in
      if length b.items == 0 then Empty else walk_into x rr wanted (pick b x (rr b)) (rr b) below

  -- where a walk ends after attempt r picked an item: there, if the item is of the type `wanted`,
  -- else where the walk down its tree ends. A bucket picks one of its items, so there is a branch
  pub walk_into : ℕ → (BucketView → ℕ) → ℕ → ItemId → ℕ → Branches → WalkEnd
  walk_into x rr wanted item r no_branches = Wrong
  walk_into x rr wanted item r (branch weight tree others) =
      if int_eq (id_of tree).0 item.0
      then (if type_of tree == wanted then Found item r else walk x rr wanted tree)
      else walk_into x rr wanted item r others

-- what round f of choose indep adds to the attempt at a bucket: numrep * f, or (numrep + 1) * f at
-- a uniform bucket whose size is a multiple of numrep
abbrev pub added : ℕ → ℕ → BucketView → ℕ
added numrep f b =
    if is_uniform b.kind && (length b.items % numrep == 0) then (numrep + 1) * f else numrep * f
