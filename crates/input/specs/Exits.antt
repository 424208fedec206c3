-- The exit status of a command by what failed: README's tables.
use Rattle.std.specs.Prelude.{ℕ}
use Rattle.input.specs.declared.command.Failure.{Failure}
use Rattle.input.specs.declared.command.Failure.TheVariants.{Output, File}

abbrev pub exit_number : Failure → ℕ
exit_number Output = 1
exit_number File = 3
