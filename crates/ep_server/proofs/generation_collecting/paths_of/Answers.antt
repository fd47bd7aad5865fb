use Rattle.std.proofs.Common.{rules, ◌≡◌, ◌<◌, ◌≤◌, ℕ, List, length, string_bytes, subst}
use Rattle.ep_folder.specs.Paths.{file_path}
use Rattle.ep_server.proofs.FilesGiven.{all_named, counted, one_more}
use Rattle.ep_server.proofs.generation_collecting.paths_of.Goals as goal

pub loop-folder-preserved : goal.loop-folder-preserved
loop-folder-preserved c =
    let less : c.loop-folder.folder-index < length c.args.folders.now = search rules in
    let named : c.deref.result.now ≡ string_bytes c.folder-item.result = search rules in
    let here : string_bytes c.in_ok-path.path ≡ file_path (string_bytes c.folder-item.result) c.args.generation c.args.name.now =
    subst (λ (n : List ℕ). string_bytes c.in_ok-path.path ≡ file_path n c.args.generation c.args.name.now) named c.in_ok-path.ensures in (
      one_more string_bytes (λ (folder : List ℕ). file_path folder c.args.generation c.args.name.now) c.loop-folder.folder-index c.args.folders.now c.folder-item.result _ c.loop-folder.paths.items _ c.in_ok-path.path less
          c.folder-item.is c.loop-folder.invariant.0 here c.in_ok-push.ensures.items,
      counted c.loop-folder.folder-index c.loop-folder.paths.items _ c.in_ok-path.path c.loop-folder.invariant.1 c.in_ok-push.ensures.items,
    )

pub returns-clause-paths : goal.returns-clause-paths
returns-clause-paths c =
    let all : length c.args.folders.now ≤ c.loop-folder.folder-index = search rules in
    all_named string_bytes (λ (folder : List ℕ). file_path folder c.args.generation c.args.name.now) c.loop-folder.folder-index c.args.folders.now c.loop-folder.paths.items all c.loop-folder.invariant.0
