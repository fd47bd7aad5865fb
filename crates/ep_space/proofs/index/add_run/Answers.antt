use Rattle.std.proofs.Common.{◌<◌, arith}
use Rattle.std.specs.Vec.{vec_len, vec_capacity}
use Rattle.ep_space.proofs.Room.{widened_new, new_room}
use Rattle.ep_space.proofs.index.add_run.Goals as goal

pub returns-in-Ok-clause-room : goal.returns-in-Ok-clause-room
returns-in-Ok-clause-room c =
    let v = c.in_ok-run.run' in
    let none = c.in_ok-run.ensures.len in
    let some = c.in_ok-run.ensures.capacity in
    let room : vec_len v < vec_capacity v = omega (arith, none, some) in
    new_room c.args.runs.now.entries c.insert.new.self.entries c.args.key.now c.in_ok-key.key.items v c.in_ok-key.ensures.items c.in_ok-run.ensures.items room c.requires c.in-Ok.ensures.updates.1 c.in-Ok.ensures.updates.3

pub returns-in-Ok-clause-same : goal.returns-in-Ok-clause-same
returns-in-Ok-clause-same c =
    let v = c.in_ok-run.run' in
    let none = c.in_ok-run.ensures.len in
    let some = c.in_ok-run.ensures.capacity in
    let room : vec_len v < vec_capacity v = omega (arith, none, some) in
    (widened_new c.args.runs.now.entries c.insert.new.self.entries c.args.key.now c.in_ok-key.key.items v c.in_ok-key.ensures.items c.in_ok-run.ensures.items room c.requires c.in-Ok.ensures.updates.1 c.in-Ok.ensures.updates.3).kept

pub returns-in-Ok-clause-keeps : goal.returns-in-Ok-clause-keeps
returns-in-Ok-clause-keeps c =
    let v = c.in_ok-run.run' in
    let none = c.in_ok-run.ensures.len in
    let some = c.in_ok-run.ensures.capacity in
    let room : vec_len v < vec_capacity v = omega (arith, none, some) in
    (widened_new c.args.runs.now.entries c.insert.new.self.entries c.args.key.now c.in_ok-key.key.items v c.in_ok-key.ensures.items c.in_ok-run.ensures.items room c.requires c.in-Ok.ensures.updates.1 c.in-Ok.ensures.updates.3).keeps
