use Rattle.std.proofs.Common.{◌≡◌, ◌++◌, take}
use Rattle.std.specs.List.{flat_map}
use Rattle.hy_render.specs.Report.{reply_text}
use Rattle.hy_render.proofs.print_replies.Given as goal

-- what stands there is of those so far
abbrev pub invariant-loop-reply : goal.invariant-loop-reply
invariant-loop-reply l = l.out.items ≡ l.fn.out.items ++ flat_map reply_text (take l.reply-index l.replies)
