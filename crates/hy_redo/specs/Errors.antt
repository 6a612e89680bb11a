-- What a disk's errors come to.
use Rattle.hy_disk.specs.declared.DiskError.{DiskError}
use Rattle.hy_disk.specs.declared.DiskError.TheVariants.{Failed, OutOfMemory}
use Rattle.hy_redo.specs.declared.errors.AppendError.{AppendError}
use Rattle.hy_redo.specs.declared.errors.AppendError.TheVariants as appending
use Rattle.hy_redo.specs.declared.errors.CreateError.{CreateError}
use Rattle.hy_redo.specs.declared.errors.CreateError.TheVariants as creating

abbrev pub as_append : DiskError → AppendError
as_append Failed = appending.DiskFault
as_append OutOfMemory = appending.OutOfMemory

abbrev pub as_create : DiskError → CreateError
as_create Failed = creating.DiskFault
as_create OutOfMemory = creating.OutOfMemory
