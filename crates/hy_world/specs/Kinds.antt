-- What contracts see of a part, by what it is.
use Rattle.hy_world.specs.declared.shared.PartKind.{PartKind}
use Rattle.hy_world.specs.declared.shared.PartKind.TheVariants as kind
use Rattle.hy_world.specs.Shared.{SharedData, CoreOf, chunk_shared}

abbrev pub shared_by : PartKind → SharedData
shared_by (kind.Chunk chunk) = chunk_shared chunk.value
shared_by (kind.Core core) = CoreOf core.value
