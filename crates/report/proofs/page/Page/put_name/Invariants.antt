use Rattle.std.proofs.Common.{◌≡◌, ◌++◌, take}
use Rattle.std.specs.Str.{str_to_ascii_lowercase}
use Rattle.report.proofs.page.Page.put_name.Given as goal

abbrev pub invariant-loop-byte : goal.invariant-loop-byte
invariant-loop-byte l = l.self.bytes.items ≡ l.initial.self.bytes.items ++ str_to_ascii_lowercase (take l.byte-index l.name)
