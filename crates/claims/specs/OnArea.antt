-- What every call answers on an area's bytes, and the bytes after it: the definitions to which the exported calls are proved equal. Assumes nothing.
use Rattle.std.specs.Prelude.{List, [], ◌∷◌, ℕ}
use Rattle.model.specs.Calls as model
use Rattle.model.specs.Outcome.{Call, start, step, propose, fire_timer, confirm_leadership, schedule, write, seal, output, end, check_log_matching, check_durability, read, Answer, no, opened, given, outcome}
use Rattle.state.specs.Call.{call, reading, starting}

-- An answer as it is.
abbrev pub same : Answer → Answer
same a = a

-- The answer of a call that is made on an area, and the area's bytes after it.
unfoldable pub on_area : List ℕ → Call → Answer × List ℕ
on_area b (start config limits seed) = starting no same b (given opened (model.start config limits seed))
on_area b (step deadline buffer) = call no same b (outcome (step deadline buffer))
on_area b (propose server) = call no same b (outcome (propose server))
on_area b (fire_timer server timer) = call no same b (outcome (fire_timer server timer))
on_area b (confirm_leadership server request) = call no same b (outcome (confirm_leadership server request))
on_area b (schedule time kind first second groups) = call no same b (outcome (schedule time kind first second groups))
on_area b (write w) = call no same b (outcome (write w))
on_area b (seal refusal present leader) = call no same b (outcome (seal refusal present leader))
on_area b (output o) = call no same b (outcome (output o))
on_area b (end role term present leader commit) = call no same b (outcome (end role term present leader commit))
on_area b check_log_matching = call no same b (outcome check_log_matching)
on_area b check_durability = call no same b (outcome check_durability)
on_area b (read r) = (reading no same b (outcome (read r)), b)
