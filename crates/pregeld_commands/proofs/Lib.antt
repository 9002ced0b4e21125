mod AsciiWords
