use Rattle.bk_scope.proofs.Terms.{◌≡◌, map, drop, mention, all_listed}
use Rattle.bk_scope.proofs.entering.list_names.Given as goal

abbrev pub invariant-loop-name : goal.invariant-loop-name
invariant-loop-name l = all_listed l.list (map mention (drop l.name-index l.names)) l.findings ≡ all_listed l.list (map mention l.names) l.fn.findings
